pub mod Replies
pub mod Bindings
