pub mod Numbered
pub mod Renumbering
pub mod Replaced
pub mod Accepting
pub mod Passes
pub mod Sums
