use Rattle.std.proofs.Common.{◌≡◌, length}
use Rattle.prefix_sieve.proofs.FrontLemmas.{AreRaisedTo}
use Rattle.prefix_sieve.proofs.raising.raise_edges.Given as goal

abbrev pub invariant-loop-edge : goal.invariant-loop-edge
invariant-loop-edge l = record {
  long : length l.buckets ≡ length l.fn.buckets;
  raised : AreRaisedTo l.edges l.hash l.weight l.edge-index l.fn.buckets l.buckets;
}
