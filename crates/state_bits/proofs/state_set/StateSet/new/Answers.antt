use Rattle.state_bits.proofs.WordLemmas.{joined-replicate}
use Rattle.state_bits.proofs.state_set.StateSet.new.Goals as goal

pub returns : goal.returns
returns g c = joined-replicate g.row.W
