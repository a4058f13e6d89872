mod Refusals
mod Replaced
mod Called
mod Entries
pub mod Theorem
