-- the words of the promise
pub mod Deques
pub mod Pool
-- what the proofs keep
pub mod Rule
pub mod Ways
pub mod Opening
pub mod Closing
