pub mod Distance
pub mod Metric
pub mod Claims
