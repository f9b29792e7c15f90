pub mod Below
pub mod Numbers
pub mod Several
pub mod Files
pub mod Whole
