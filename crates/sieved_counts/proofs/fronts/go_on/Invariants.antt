use Rattle.std.proofs.Common.{◌≡◌}
use Rattle.std.specs.List.{slice_get}
use Rattle.candidate_graph.specs.Graphs.{Grows}
use Rattle.sieved_counts.proofs.GoneLemmas.{HasGoneTo}
use Rattle.sieved_counts.proofs.fronts.go_on.Given as goal

abbrev pub invariant-loop-front : goal.invariant-loop-front
invariant-loop-front g l = record {
  begun : g.B.Branches.IsBegun l.branches;
  ground : g.B.Branches.ground_of l.branches ≡ g.B.Branches.ground_of l.fn.branches;
  grows : Grows (g.B.Branches.nodes l.fn.branches) (g.B.Branches.nodes l.branches);
  gone : HasGoneTo (slice_get l.sieve l.before) l.weight (g.B.Branches.nodes l.branches) l.here l.front-index l.fn.counts l.counts l.next.items;
}
