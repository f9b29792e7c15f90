pub mod Edits
pub mod Previews
pub mod Steps
pub mod Shelters
pub mod Runs
pub mod Statement
pub mod Cases
