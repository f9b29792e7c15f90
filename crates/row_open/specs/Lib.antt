pub mod Open
pub mod Steps
pub mod Statement
