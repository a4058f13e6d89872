pub mod Counts
pub mod Box
pub mod Parts
