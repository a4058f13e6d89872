pub mod Turns
pub mod Promised
