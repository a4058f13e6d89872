pub mod Grid
pub mod Room
pub mod Places
pub mod Kept
pub mod Near
