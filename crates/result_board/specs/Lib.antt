-- the words of the promise
pub mod Board
-- what the proofs keep
pub mod Entries
