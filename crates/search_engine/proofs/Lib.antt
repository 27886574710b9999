pub mod BalanceLemmas
pub mod ChoiceLemmas
pub mod CrewLemmas
pub mod CrossingLemmas
pub mod PartitionLemmas
pub mod RunLemmas
pub mod SearchLemmas
pub mod SeatLemmas
