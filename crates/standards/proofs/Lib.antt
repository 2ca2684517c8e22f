pub mod FiveBits
pub mod Bests
pub mod Orders
pub mod Gathered
