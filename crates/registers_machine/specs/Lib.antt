pub mod Device
pub mod Calls
pub mod AsCalls
pub mod Claims
