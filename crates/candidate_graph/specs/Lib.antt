-- the words of the promise
pub mod Courses
pub mod Graphs
pub mod Paths
-- what the proofs keep
pub mod Words
pub mod Kept
