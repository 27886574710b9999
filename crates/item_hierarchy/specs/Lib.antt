-- the words of the promise
pub mod Edges
pub mod Refusing
-- what the proofs keep
pub mod ByChild
pub mod Walking
pub mod Gathering
pub mod Taking
pub mod Faults
