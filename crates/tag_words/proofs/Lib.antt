pub mod Rows
mod Offsets
