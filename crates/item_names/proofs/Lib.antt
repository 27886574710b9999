pub mod Growing
pub mod FieldLemmas
mod JoiningLemmas
mod KeyLemmas
