pub mod Owners
pub mod Broken
pub mod Depth
pub mod First
pub mod Count
pub mod Owned
pub mod Accepted
pub mod Replied
