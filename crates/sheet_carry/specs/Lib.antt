pub mod Carries
pub mod Statement
