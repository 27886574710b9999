-- the words of the promise
pub mod Buckets
pub mod Hashes
pub mod Sieves
pub mod Fronts
-- what the proofs keep
pub mod Bits
