pub mod Saves
pub mod Stores
pub mod Statement
