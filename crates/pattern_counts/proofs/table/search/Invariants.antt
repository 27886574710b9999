use Rattle.open_addressing.specs.Searching.{AreOthers}
use Rattle.pattern_counts.specs.Table.{layout}
use Rattle.pattern_counts.proofs.table.search.Given as goal

abbrev pub invariant-loop-at : goal.invariant-loop-at
invariant-loop-at l = AreOthers layout l.lists.lists l.slots l.list l.from l.at
