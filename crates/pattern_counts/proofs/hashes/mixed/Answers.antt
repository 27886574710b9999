use Rattle.pattern_counts.specs.Hashes.{mixed}
use Rattle.pattern_counts.proofs.hashes.mixed.Goals as goal

pub returns : goal.returns
unfolding mixed
returns c = c.folded_multiply.ensures
