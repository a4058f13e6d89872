pub mod Thresholds
pub mod Numbers
pub mod Claims
