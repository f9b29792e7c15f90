pub mod Held
pub mod Joined
pub mod Arranging
pub mod Restoring
pub mod Parts
pub mod Bounds
pub mod Files
pub mod Replies
