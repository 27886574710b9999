-- the words of the promise
pub mod Automata
pub mod Codes
pub mod Members
pub mod Groups
pub mod Work
pub mod NamedWork
pub mod Merges
-- what the proofs keep
pub mod Registry
pub mod Walks
pub mod Languages
pub mod Searches
