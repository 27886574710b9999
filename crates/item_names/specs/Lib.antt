-- the words of the promise
pub mod Names
pub mod Fields
-- what the proofs keep
pub mod Table
