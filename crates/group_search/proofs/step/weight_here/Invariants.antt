use Rattle.std.proofs.Common.{◌≡◌, take}
use Rattle.group_search.specs.Steps.{state_at, weigh}
use Rattle.group_search.proofs.step.weight_here.Given as goal

abbrev pub invariant-loads : goal.invariant-loads
invariant-loads g l = l.weight ≡ weigh (λ state. (state_at (g.A.Automata.states_of l.automata) state).accepts) (take l.load-index l.loads)
