pub mod Follow
pub mod Tables
