pub mod Text
pub mod Gathering
