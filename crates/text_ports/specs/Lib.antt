-- the words of the promise
pub mod Faults
pub mod Memory
pub mod Lines
-- what the proofs keep
pub mod Held
pub mod Scanning
