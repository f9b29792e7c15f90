pub mod Parens
pub mod FromTable
pub mod Injective
pub mod Shapes
pub mod Commas
pub mod Readings
