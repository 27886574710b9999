-- the words of the promise
pub mod Tally
-- what the proofs keep
pub mod Hashes
pub mod Table
pub mod Counted
