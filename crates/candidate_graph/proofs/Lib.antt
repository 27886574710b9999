pub mod BasicLemmas
pub mod WordLemmas
pub mod NodeLemmas
pub mod FoundLemmas
pub mod PointLemmas
pub mod EdgeLemmas
pub mod GraphLemmas
pub mod PathLemmas
