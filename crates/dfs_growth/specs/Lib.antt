-- the words of the promise
pub mod Nodes
-- what the proofs keep
pub mod Projections
pub mod Tree
