-- the words of the promise
pub mod Members
pub mod Neighbours
-- what the proofs keep
pub mod Words
pub mod WordLaws
pub mod Left
