pub mod Writing
pub mod Answered
pub mod Listed
