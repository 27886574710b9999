-- the words of the promise
pub mod Behind
pub mod Counts
pub mod Longer
-- what the proofs keep
pub mod Following
pub mod Kept
