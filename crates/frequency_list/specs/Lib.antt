-- what the proofs keep
pub mod Tallies
pub mod Order
