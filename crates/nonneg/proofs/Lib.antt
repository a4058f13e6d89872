pub mod Nonneg
