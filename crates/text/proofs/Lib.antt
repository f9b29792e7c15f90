pub mod Digits
pub mod Growing
pub mod Rows
pub mod Spaces
