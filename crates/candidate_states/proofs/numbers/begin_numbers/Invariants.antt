use Rattle.std.proofs.Common.{◌≡◌, replicate}
use Rattle.candidate_states.specs.Stages.{unnumbered}
use Rattle.candidate_states.proofs.numbers.begin_numbers.Given as goal

abbrev pub invariant-nodes : goal.invariant-nodes
invariant-nodes l = l.numbers.items ≡ replicate l._node unnumbered
