pub mod Counts
pub mod Numbers
pub mod Growth
