pub mod Table
pub mod Searching
pub mod Slots
