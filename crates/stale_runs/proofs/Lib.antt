pub mod Loops
pub mod Swept
pub mod Parts
pub mod Sizes
mod Runs
pub mod Rows
pub mod Put
