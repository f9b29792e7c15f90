pub mod Contexts
pub mod Fixup
