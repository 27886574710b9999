use Rattle.std.proofs.Common.{◌≡◌, replicate}
use Rattle.candidate_states.specs.Kept.{nothing}
use Rattle.candidate_states.proofs.states.begin.Given as goal

abbrev pub invariant-nodes : goal.invariant-nodes
invariant-nodes l = l.made.items ≡ replicate l._node nothing
