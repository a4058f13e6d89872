pub mod Screens
pub mod Frames
