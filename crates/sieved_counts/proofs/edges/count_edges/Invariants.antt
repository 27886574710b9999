use Rattle.std.proofs.Common.{ℕ, List}
use Rattle.std.specs.List.{slice_get}
use Rattle.sieved_counts.specs.Fronts.{IsFrontOf, HasGone}
use Rattle.sieved_counts.proofs.GoneLemmas.{ByEdges}
use Rattle.sieved_counts.proofs.edges.count_edges.Given as goal

abbrev pub invariant-loop-edge : goal.invariant-loop-edge
invariant-loop-edge l =
    (list : List ℕ) → IsFrontOf l.fn.counts.lists list l.front
    → HasGone (ByEdges (slice_get l.sieve l.before) list l.edges l.edge-index) l.weight l.fn.counts l.counts l.fn.next.items l.next.items
