-- the words of the promise
pub mod Parsing
-- what the proofs keep
pub mod Classes
pub mod Repeats
pub mod Scanning
pub mod View
pub mod Reading
pub mod Checking
pub mod Resolving
pub mod Faults
