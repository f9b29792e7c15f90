pub mod Decisions
pub mod Closed
pub mod Quiet
pub mod Hands
