pub mod NumberLemmas
pub mod PathLemmas
pub mod SumLemmas
pub mod CandidateLemmas
pub mod TellingLemmas
