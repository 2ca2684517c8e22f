pub mod Grades
pub mod Closures
