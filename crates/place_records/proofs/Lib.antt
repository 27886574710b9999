pub mod TwinLemmas
pub mod NumberLemmas
pub mod RecordLemmas
pub mod FillLemmas
pub mod BlockLemmas
pub mod SpanLemmas
