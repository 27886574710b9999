pub mod StartLemmas
pub mod WriteLemmas
pub mod PlaceLemmas
pub mod PathLemmas
pub mod GraphLemmas
pub mod ExpandLemmas
pub mod KeptLemmas
pub mod LawLemmas
