pub mod Nine
pub mod Examples
pub mod Claims
