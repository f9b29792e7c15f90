pub mod Scans
pub mod Arms
pub mod Linear
