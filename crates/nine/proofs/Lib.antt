pub mod Nine
pub mod Second
pub mod Runs
