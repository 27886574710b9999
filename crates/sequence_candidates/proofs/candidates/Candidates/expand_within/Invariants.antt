use Rattle.std.proofs.Common.{◌≡◌, ℕ, ◌<◌}
use Rattle.candidate_graph.specs.Graphs.{IsExpanded, Grows}
use Rattle.sequence_candidates.proofs.candidates.Candidates.expand_within.Given as goal

-- the edges of the first so many nodes are known
abbrev pub invariant-loop-node : goal.invariant-loop-node
invariant-loop-node l = record {
  part : l.self.part ≡ l.initial.self.part;
  begun : l.self.begun ≡ l.initial.self.begun;
  grows : Grows l.initial.self.nodes l.self.nodes;
  done : (number : ℕ) → number < l.node → IsExpanded l.self.nodes number;
}
