pub mod Signs
pub mod Counted
pub mod Every
pub mod Fewest
pub mod Examples
