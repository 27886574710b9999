use Rattle.std.proofs.Common.{◌≡◌}
use Rattle.candidate_graph.specs.Graphs.{Grows}
use Rattle.sieved_counts.specs.Counted.{HasCounted}
use Rattle.sieved_counts.specs.Fronts.{AreFrontsAt}
use Rattle.sieved_counts.proofs.fronts.go_down.Given as goal

abbrev pub invariant-loop-before : goal.invariant-loop-before
invariant-loop-before g l = record {
  begun : g.B.Branches.IsBegun l.branches;
  ground : g.B.Branches.ground_of l.branches ≡ g.B.Branches.ground_of l.fn.branches;
  grows : Grows (g.B.Branches.nodes l.fn.branches) (g.B.Branches.nodes l.branches);
  fronts : AreFrontsAt l.sieve (g.B.Branches.nodes l.branches) l.before l.counts.lists l.here.items;
  counted : HasCounted l.sieve l.weight l.before (g.B.Branches.nodes l.branches) l.fn.counts l.counts;
}
