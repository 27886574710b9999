-- what the proofs keep
pub mod Taking
pub mod Blocks
pub mod Faults
