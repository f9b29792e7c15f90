pub mod Runs
pub mod Checks
pub mod Laws
pub mod Promise
