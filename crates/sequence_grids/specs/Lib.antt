-- the words of the promise
pub mod Grids
pub mod Successors
pub mod Readings
-- what the proofs keep
pub mod Tables
pub mod Words
pub mod Widths
pub mod Columns
pub mod Kinds
pub mod Places
pub mod Wholes
pub mod Cuts
