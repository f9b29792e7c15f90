pub mod Work
pub mod Recursion
