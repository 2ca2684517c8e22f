pub mod Running
pub mod Collecting
pub mod Judging
