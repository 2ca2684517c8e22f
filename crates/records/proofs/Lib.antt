pub mod Words
pub mod Lowest
pub mod Layouts
pub mod Ranges
pub mod Legs
pub mod LegLaws
pub mod Circuits
pub mod CircuitLaws
