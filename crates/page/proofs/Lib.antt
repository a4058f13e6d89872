pub mod Trailers
pub mod Files
