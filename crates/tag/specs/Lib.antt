pub mod Tag
pub mod Words
pub mod Claims
pub mod Laws
