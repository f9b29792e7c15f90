pub mod Stack
pub mod Walk
pub mod Steps
pub mod Cases
pub mod Paths
pub mod Settled
pub mod Numbers
