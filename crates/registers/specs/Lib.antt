pub mod Address
pub mod Registers
pub mod Claims
pub mod Answers
