pub mod CutLemmas
pub mod ShelfLemmas
