pub mod Callees
pub mod Orders
pub mod Cases
