mod SlotLemmas
pub mod TableLemmas
