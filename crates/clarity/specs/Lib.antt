pub mod Clarity
pub mod Claims
