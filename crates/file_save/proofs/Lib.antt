pub mod Putting
pub mod Replies
pub mod Small
pub mod Promise
