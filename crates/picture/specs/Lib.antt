pub mod Picture
pub mod Local
pub mod Span
pub mod Pipeline
pub mod Fill
pub mod Refusal
pub mod Answer
