pub mod Promise
pub mod Witness
pub mod LeftOut
pub mod Structs
pub mod Smaller
pub mod Orders
