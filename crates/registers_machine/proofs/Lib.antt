pub mod Answers
pub mod Kept
pub mod Status
pub mod Commands
pub mod Flags
pub mod Counts
pub mod AsCalls
pub mod Ends
