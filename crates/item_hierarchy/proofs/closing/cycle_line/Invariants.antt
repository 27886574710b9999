use Rattle.std.proofs.Common.{ℕ, ◌-◌, ◌≤◌, ◌<◌}
use Rattle.mine_model.specs.Hierarchy.{HasCycle, IsAcyclic}
use Rattle.item_hierarchy.specs.Walking.{links_upto}
use Rattle.item_hierarchy.proofs.closing.cycle_line.Given as goal

abbrev pub invariant-loop-low : goal.invariant-loop-low
invariant-loop-low l = record {
  range : l.low ≤ l.high;
  cycle : HasCycle (links_upto l.high l.rows);
  none : (earlier : ℕ) → earlier < l.low → IsAcyclic (links_upto earlier l.rows);
}

abbrev pub decreases-loop-low : goal.decreases-loop-low
decreases-loop-low l = l.high - l.low
