-- the words of the promise
pub mod Names
-- what the proofs keep
pub mod Records
