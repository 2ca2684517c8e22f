pub mod Writing
pub mod Listing
pub mod Listed
pub mod Tallies
