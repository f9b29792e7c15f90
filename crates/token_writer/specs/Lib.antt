pub mod Writes
pub mod Puts
pub mod Levels
pub mod Tasks
