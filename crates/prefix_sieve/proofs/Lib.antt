mod BitLemmas
mod FrontLemmas
mod HashLemmas
pub mod PathLemmas
mod SieveLemmas
