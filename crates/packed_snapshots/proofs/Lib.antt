pub mod NumberLemmas
pub mod SnapshotLemmas
