pub mod Single
pub mod Root
pub mod Parts
pub mod Claims
pub mod Order
pub mod Zero
