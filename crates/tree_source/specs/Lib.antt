pub mod Source
pub mod Nodes
