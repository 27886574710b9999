pub mod OrderLemmas
pub mod PieceLemmas
pub mod WrittenLemmas
