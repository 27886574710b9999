use Rattle.std.proofs.Common.{◌≡◌, length}
use Rattle.candidate_graph.specs.Graphs.{Grows}
use Rattle.prefix_sieve.proofs.FrontLemmas.{HaveRaisedTo}
use Rattle.prefix_sieve.proofs.raising.raise_all.Given as goal

abbrev pub invariant-loop-front : goal.invariant-loop-front
invariant-loop-front g l = record {
  ground : g.B.Branches.ground_of l.branches ≡ g.B.Branches.ground_of l.fn.branches;
  begun : g.B.Branches.IsBegun l.branches;
  grows : Grows (g.B.Branches.nodes l.fn.branches) (g.B.Branches.nodes l.branches);
  long : length l.buckets ≡ length l.fn.buckets;
  raised : HaveRaisedTo (g.B.Branches.nodes l.branches) l.here l.weight l.front-index l.fn.buckets l.buckets;
}
