mod SumLemmas
pub mod LevelLemmas
pub mod LeadLemmas
pub mod PartLemmas
mod WorkerLemmas
pub mod CrossingLemmas
