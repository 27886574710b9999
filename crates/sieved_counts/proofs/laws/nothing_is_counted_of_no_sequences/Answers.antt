use Rattle.sieved_counts.proofs.LawLemmas.{counted-none}
use Rattle.sieved_counts.proofs.laws.nothing_is_counted_of_no_sequences.Goals as goal

pub returns : goal.returns
returns c = counted-none
