pub mod Window
pub mod Passes
