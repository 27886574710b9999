-- the words of the promise
pub mod History
pub mod Passes
-- what the proofs keep
pub mod Turns
pub mod Plays
pub mod Rests
