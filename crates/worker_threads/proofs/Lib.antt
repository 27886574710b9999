pub mod DoingLemmas
