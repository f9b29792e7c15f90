pub mod Numbers
pub mod Standing
