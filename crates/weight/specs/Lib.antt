pub mod Weight
pub mod Plain
pub mod Claims
