pub mod WordLemmas
pub mod SetLemmas
pub mod LeftLemmas
pub mod NeighbourLemmas
