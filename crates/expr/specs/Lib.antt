pub mod Orders
pub mod Handed
pub mod Expr
pub mod Steps
