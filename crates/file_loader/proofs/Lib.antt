pub mod Several
pub mod Quick
pub mod Storing
pub mod Files
pub mod Loading
pub mod Replied
