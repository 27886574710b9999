mod TableLemmas
mod NodeLemmas
pub mod SumLemmas
mod JoinLemmas
