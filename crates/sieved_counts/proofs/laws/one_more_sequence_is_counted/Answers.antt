use Rattle.sieved_counts.proofs.LawLemmas.{counted-more}
use Rattle.sieved_counts.proofs.laws.one_more_sequence_is_counted.Goals as goal

pub returns : goal.returns
returns c = counted-more
