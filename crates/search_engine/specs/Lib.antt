-- the words of the promise
pub mod Choices
pub mod Seats
pub mod Workers
pub mod Partition
-- what the proofs keep
pub mod Searches
pub mod Shifts
pub mod Crews
