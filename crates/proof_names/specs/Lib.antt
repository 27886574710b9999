-- the words of the promise
pub mod NamedProofs
pub mod NamedRefusals
pub mod Numberings
