mod Laws
mod Signed
pub mod Theorem
