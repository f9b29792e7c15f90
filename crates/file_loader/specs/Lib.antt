pub mod Several
pub mod Files
pub mod Reads
