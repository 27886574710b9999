pub mod StandLemmas
pub mod VisitLemmas
pub mod JoinLemmas
pub mod WayLemmas
pub mod GroupLemmas
pub mod PieceLemmas
