pub mod Laws
pub mod Channels
pub mod Sums
pub mod Distances
pub mod Under
