use Rattle.std.proofs.Common.{◌≡◌, take}
use Rattle.group_search.specs.Steps.{steps_of}
use Rattle.group_search.proofs.step.collect_steps.Given as goal

abbrev pub invariant-loads : goal.invariant-loads
invariant-loads g l = l.steps.items ≡ steps_of (g.A.Automata.states_of l.automata) (take l.load-index l.loads)
