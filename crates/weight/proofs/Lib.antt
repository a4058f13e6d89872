pub mod Laws
pub mod Threshold
pub mod Corner
pub mod Zeros
pub mod Ground
