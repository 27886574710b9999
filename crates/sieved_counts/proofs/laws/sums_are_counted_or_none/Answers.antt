use Rattle.sieved_counts.proofs.LawLemmas.{counted-cases}
use Rattle.sieved_counts.proofs.laws.sums_are_counted_or_none.Goals as goal

pub returns : goal.returns
returns c = counted-cases
