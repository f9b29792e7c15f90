pub mod Signs
pub mod Parts
pub mod Rows
pub mod Columns
pub mod Lengths
pub mod Promise
