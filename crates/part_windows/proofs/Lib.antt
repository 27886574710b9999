pub mod RunLemmas
pub mod PlaceLemmas
pub mod WindowLemmas
pub mod KindLemmas
pub mod EntryLemmas
pub mod MakeLemmas
pub mod KeyLemmas
pub mod PartLemmas
