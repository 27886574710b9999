-- the words of the promise
pub mod Aims
pub mod Writings
pub mod Sequences
pub mod Sums
pub mod Files
pub mod Runs
-- what the proofs keep
pub mod Kept
