pub mod Classify
