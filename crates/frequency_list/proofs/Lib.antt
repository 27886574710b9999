pub mod TallyLemmas
pub mod SequenceLemmas
pub mod OrderLemmas
pub mod PieceLemmas
pub mod RankingLemmas
