use Rattle.std.proofs.Common.{refl}
use Rattle.prefix_counts.specs.Table.{hash}
use Rattle.prefix_counts.proofs.table.Key.hash.Goals as goal

pub returns : goal.returns
unfolding hash
returns c = rw (c.from.ensures, c.from-2.ensures) refl
