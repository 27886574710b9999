pub mod Cuts
pub mod Shelf
