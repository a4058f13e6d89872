pub mod Flags
pub mod Same
pub mod Exits
pub mod Ranges
pub mod Unpack
