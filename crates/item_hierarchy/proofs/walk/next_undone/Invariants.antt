use Rattle.std.proofs.Common.{ℕ, ◌≤◌, ◌<◌, get_or}
use Rattle.item_hierarchy.specs.declared.edges.EdgeRow.{EdgeRow}
use Rattle.item_hierarchy.specs.declared.walk.Mark.TheVariants.{Done}
use Rattle.item_hierarchy.specs.Walking.{IsMarked}
use Rattle.item_hierarchy.proofs.walk.next_undone.Given as goal

abbrev pub invariant-loop-at : goal.invariant-loop-at
invariant-loop-at l =
    (k : ℕ) (d : EdgeRow) → l.from ≤ k → k < l.at → (get_or l.rows k d).line ≤ l.line → IsMarked l.marks (get_or l.rows k d).parent Done
