use Rattle.std.proofs.Common.{◌≡◌, length}
use Rattle.graph_order.proofs.StepLemmas.{HoldsTo}
use Rattle.candidate_pairs.specs.Sums.{IsSummed}
use Rattle.candidate_pairs.proofs.paths.sum_all.Given as goal

-- the nodes so far were summed up
abbrev pub invariant-loop-turn : goal.invariant-loop-turn
invariant-loop-turn l = record {
  long : length l.sums.items ≡ length l.graph.nodes;
  summed : HoldsTo l.order (IsSummed l.graph.nodes l.sums.items) l.turn-index;
}
