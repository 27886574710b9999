pub mod Problems
pub mod Parts
