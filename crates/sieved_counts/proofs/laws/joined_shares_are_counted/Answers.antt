use Rattle.sieved_counts.proofs.DealtLemmas.{counted-joined}
use Rattle.sieved_counts.proofs.laws.joined_shares_are_counted.Goals as goal

pub returns : goal.returns
returns c = counted-joined
