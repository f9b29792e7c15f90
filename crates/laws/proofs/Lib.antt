pub mod Calls
pub mod Choice
pub mod Each
pub mod Keys
pub mod Lists
pub mod Putting
