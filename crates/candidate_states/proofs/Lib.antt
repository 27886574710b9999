pub mod StateLemmas
pub mod StageLemmas
pub mod AskLemmas
pub mod LinkLemmas
