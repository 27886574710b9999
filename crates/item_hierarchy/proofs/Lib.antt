pub mod ByChildLemmas
pub mod WalkingLemmas
pub mod GatheringLemmas
pub mod ClosingLemmas
pub mod TakingLemmas
