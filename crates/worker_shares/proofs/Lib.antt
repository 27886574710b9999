pub mod NumberLemmas
pub mod ShareLemmas
