pub mod Unfold
pub mod Walks
pub mod Matches
