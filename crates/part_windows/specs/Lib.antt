pub mod Patterns
pub mod Windows
pub mod Entries
