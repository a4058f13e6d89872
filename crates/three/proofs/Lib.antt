pub mod Three
pub mod Cross
pub mod Words
pub mod Runs
