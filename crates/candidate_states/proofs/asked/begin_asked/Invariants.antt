use Rattle.std.proofs.Common.{◌≡◌, replicate}
use Rattle.candidate_states.specs.Stages.{unasked}
use Rattle.candidate_states.proofs.asked.begin_asked.Given as goal

abbrev pub invariant-nodes : goal.invariant-nodes
invariant-nodes l = l.asked.items ≡ replicate l._node unasked
