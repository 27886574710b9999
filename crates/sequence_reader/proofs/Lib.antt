pub mod TakingLemmas
mod JoiningLemmas
mod CuttingLemmas
mod PieceLemmas
mod BehindLemmas
mod BlockLemmas
mod AddingLemmas
mod RefusalLemmas
