-- the words of the promise
pub mod Written
-- what the proofs keep
pub mod Order
