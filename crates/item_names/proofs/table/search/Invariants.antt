use Rattle.open_addressing.specs.Searching.{AreOthers}
use Rattle.item_names.specs.Table.{layout}
use Rattle.item_names.proofs.table.search.Given as goal

abbrev pub invariant-loop-at : goal.invariant-loop-at
invariant-loop-at l = AreOthers layout l.texts l.slots l.name l.from l.at
