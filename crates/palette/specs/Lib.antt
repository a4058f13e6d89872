pub mod Palette
pub mod Claims
pub mod Kept
