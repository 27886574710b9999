-- the words of the promise
pub mod Prefixes
pub mod Sums
-- what the proofs keep
pub mod Nodes
pub mod Table
