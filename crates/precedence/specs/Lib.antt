pub mod Precedences
pub mod Reference
