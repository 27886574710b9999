-- the words of the promise
pub mod Records
pub mod Ranks
pub mod Values
-- what the proofs keep
pub mod Twins
pub mod Numbers
pub mod Filled
pub mod Blocks
pub mod Spans
