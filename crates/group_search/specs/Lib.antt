-- the words of the promise
pub mod Found
pub mod Searched
-- what the proofs keep
pub mod Steps
pub mod Waits
pub mod Search
pub mod Decoded
