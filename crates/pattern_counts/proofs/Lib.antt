mod HashLemmas
mod SumLemmas
