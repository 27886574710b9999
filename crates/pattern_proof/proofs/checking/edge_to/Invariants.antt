use Rattle.std.proofs.Common.{◌-◌, ℕ, ◌≤◌, ◌<◌, length, get_or}
use Rattle.fst_compile.specs.declared.edge.Edge.{Edge}
use Rattle.pattern_proof.proofs.checking.edge_to.Given as goal

abbrev pub invariant-loop-low : goal.invariant-loop-low
invariant-loop-low l = record {
  in_range : l.high ≤ length l.edges;
  ordered : l.low ≤ l.high;
  below : (k : ℕ) (d : Edge) → k < l.low → (get_or l.edges k d).to.0 < l.to.0;
  above : (k : ℕ) (d : Edge) → l.high ≤ k → k < length l.edges → l.to.0 < (get_or l.edges k d).to.0;
}

abbrev pub decreases-loop-low : goal.decreases-loop-low
decreases-loop-low l = l.high - l.low
