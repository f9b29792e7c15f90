pub mod Reading
pub mod Tables
pub mod Pieces
pub mod Mirrored
pub mod Kinds
pub mod Waiting
pub mod Turns
