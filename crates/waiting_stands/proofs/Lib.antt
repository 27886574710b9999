pub mod LayoutLemmas
pub mod MarkLemmas
