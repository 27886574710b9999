use Rattle.std.proofs.Common.{◌-◌, ℕ, ◌≤◌, ◌<◌, length, get_or}
use Rattle.mine_model.specs.declared.item.Item.{Item}
use Rattle.mine_model.proofs.hierarchy.holds.Given as goal

abbrev pub invariant-loop-low : goal.invariant-loop-low
invariant-loop-low l = record {
  in_range : (l.low ≤ l.high) × (l.high ≤ length l.list);
  below : (k : ℕ) (d : Item) → k < l.low → (get_or l.list k d).0 < l.w.0;
  above : (k : ℕ) (d : Item) → l.high ≤ k → k < length l.list → l.w.0 < (get_or l.list k d).0;
}

abbrev pub decreases-loop-low : goal.decreases-loop-low
decreases-loop-low l = l.high - l.low
