pub mod Counts
pub mod Paid
pub mod Tokens
