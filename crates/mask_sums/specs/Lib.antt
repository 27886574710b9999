-- the words of the promise
pub mod Sets
-- what the proofs keep
pub mod Kept
