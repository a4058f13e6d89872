pub mod Sizes
pub mod Theorem
