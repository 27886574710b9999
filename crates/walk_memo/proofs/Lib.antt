pub mod CellLemmas
pub mod ActionLemmas
pub mod MemoLemmas
pub mod CutLemmas
