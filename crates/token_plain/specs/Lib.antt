pub mod Plain
pub mod Trees
pub mod Written
pub mod Reads
pub mod Commas
pub mod Contexts
