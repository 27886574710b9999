-- the words of the promise
pub mod Roots
-- what the proofs keep
pub mod Kept
pub mod Stages
