pub mod Refusals
pub mod Passes
