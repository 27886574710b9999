pub mod BoundLemmas
pub mod MarkLemmas
pub mod ReadingLemmas
pub mod HoldingLemmas
pub mod PrefixLemmas
pub mod Unambiguous
pub mod TokenLemmas
pub mod RefusalLemmas
