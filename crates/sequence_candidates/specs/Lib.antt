-- the words of the promise
pub mod Candidates
-- what the proofs keep
pub mod Writings
pub mod Terrains
