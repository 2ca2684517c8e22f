pub mod Numbered
pub mod Standing
pub mod Books
pub mod Runs
pub mod Paths
