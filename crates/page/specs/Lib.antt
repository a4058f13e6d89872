pub mod Page
pub mod Answers
pub mod Examples
pub mod Claims
