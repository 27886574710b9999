-- the words of the promise
pub mod Pivots
pub mod Roots
-- what the proofs keep
pub mod Loads
pub mod Workers
pub mod Wholes
