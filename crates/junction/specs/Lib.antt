pub mod Junction
pub mod Flags
pub mod Idle
pub mod Claims
