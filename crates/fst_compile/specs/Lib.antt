-- the words of the promise
pub mod Shape
pub mod Positions
pub mod Transducer
-- what the proofs keep
pub mod Rows
pub mod Fragments
pub mod Transducers
