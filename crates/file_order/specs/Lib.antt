pub mod Orders
pub mod Heads
pub mod Statement
