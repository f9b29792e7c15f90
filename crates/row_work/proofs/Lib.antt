pub mod Bounds
pub mod Recursion
