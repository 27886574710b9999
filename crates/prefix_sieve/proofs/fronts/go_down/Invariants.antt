use Rattle.std.proofs.Common.{◌≡◌}
use Rattle.candidate_graph.specs.Graphs.{Grows}
use Rattle.prefix_sieve.specs.Fronts.{AreFronts}
use Rattle.prefix_sieve.proofs.fronts.go_down.Given as goal

abbrev pub invariant-loop-before : goal.invariant-loop-before
invariant-loop-before g l = record {
  ground : g.B.Branches.ground_of l.branches ≡ g.B.Branches.ground_of l.fn.branches;
  begun : g.B.Branches.IsBegun l.branches;
  grows : Grows (g.B.Branches.nodes l.fn.branches) (g.B.Branches.nodes l.branches);
  fronts : AreFronts l.sieve (g.B.Branches.nodes l.branches) l.before l.here.items;
}
