-- the words of the promise
pub mod Orders
-- what the proofs keep
pub mod Levels
