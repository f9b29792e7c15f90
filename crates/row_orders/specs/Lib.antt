pub mod Statement
pub mod Cases
