use Rattle.std.proofs.Common.{◌∷◌, []}
use Rattle.open_addressing.specs.Searching.{AreOthers}
use Rattle.prefix_counts.specs.Table.{layout, pairs_of}
use Rattle.prefix_counts.proofs.table.search.Given as goal

abbrev pub invariant-loop-at : goal.invariant-loop-at
invariant-loop-at l = AreOthers layout (pairs_of l.nodes) l.slots (l.key.parent ∷ l.key.rank ∷ []) l.from l.at
