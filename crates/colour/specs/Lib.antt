pub mod Nearness
pub mod Weighed
pub mod Claims
