mod Tagged
mod Ring
pub mod Shown
