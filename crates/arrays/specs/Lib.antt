pub mod Header
pub mod Item
