pub mod Replies
pub mod Carrying
