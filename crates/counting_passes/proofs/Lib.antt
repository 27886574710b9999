mod PathLemmas
mod SumLemmas
mod PartLemmas
mod WorkerLemmas
mod EmptyLemmas
