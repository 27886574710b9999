use Rattle.std.proofs.Common.{◌≡◌, ◌++◌, map, take}
use Rattle.item_hierarchy.proofs.TakingLemmas.{row_of}
use Rattle.item_hierarchy.proofs.reading.add_rows.Given as goal

abbrev pub invariant-loop-parent : goal.invariant-loop-parent
invariant-loop-parent l = l.rows.items ≡ l.initial.rows.items ++ map (row_of l.line l.child) (take l.parent-index l.parents)
