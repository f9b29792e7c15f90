pub mod Sound
pub mod Tables
pub mod Numbers
pub mod Accepts
