pub mod Sums
pub mod Hands
pub mod Parts
pub mod Steps
pub mod Ends
pub mod Turn
