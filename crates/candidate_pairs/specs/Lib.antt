-- the words of the promise
pub mod Paths
-- what the proofs keep
pub mod Sums
-- what the workers tell
pub mod Shares
