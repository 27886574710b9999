-- what a number and a list of snapshots are in bytes
pub mod Numbers
pub mod Snapshots
pub mod Packed
-- what the proofs keep
pub mod Ahead
