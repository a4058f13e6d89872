pub mod Three
pub mod Examples
