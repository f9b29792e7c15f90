pub mod Columns
pub mod Rearranged
pub mod Steps
