-- the words of the promise
pub mod Counted
-- what the proofs keep
pub mod Fronts
