pub mod OrderLemmas
pub mod StepLemmas
