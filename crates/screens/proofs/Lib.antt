pub mod Screens
pub mod Blocks
