pub mod Subexpressions
