use Rattle.prefix_sieve.specs.Hashes.{mixed}
use Rattle.prefix_sieve.proofs.hashes.mixed.Goals as goal

pub returns : goal.returns
unfolding mixed
returns c = rw c.from.ensures at c.folded_multiply.ensures
