-- the words of the promise
pub mod Pivots
-- what the proofs keep
pub mod Tops
pub mod Marks
pub mod Kept
pub mod Pairs
