use Rattle.std.proofs.Common.{◌≡◌}
use Rattle.std.specs.List.{slice_get}
use Rattle.candidate_graph.specs.Graphs.{Grows}
use Rattle.prefix_sieve.proofs.FrontLemmas.{AreGoneTo}
use Rattle.prefix_sieve.proofs.fronts.go_on.Given as goal

abbrev pub invariant-loop-front : goal.invariant-loop-front
invariant-loop-front g l = record {
  ground : g.B.Branches.ground_of l.branches ≡ g.B.Branches.ground_of l.fn.branches;
  begun : g.B.Branches.IsBegun l.branches;
  grows : Grows (g.B.Branches.nodes l.fn.branches) (g.B.Branches.nodes l.branches);
  gone : AreGoneTo (slice_get l.sieve l.before) (g.B.Branches.nodes l.branches) l.here l.front-index l.next.items;
}
