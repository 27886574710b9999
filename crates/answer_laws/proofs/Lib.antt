pub mod ListingLemmas
pub mod OutputLemmas
pub mod SortLemmas
pub mod ExistenceLemmas
pub mod CuttingLemmas
pub mod RepeatLemmas
pub mod AcceptedLemmas
