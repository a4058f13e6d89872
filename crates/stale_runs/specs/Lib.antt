pub mod Steps
pub mod Tiles
pub mod Frames
