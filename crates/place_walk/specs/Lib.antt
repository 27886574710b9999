-- the words of the promise
pub mod Courses
pub mod Codes
pub mod Stands
pub mod Visits
pub mod Groups
-- what the proofs keep
pub mod Ways
