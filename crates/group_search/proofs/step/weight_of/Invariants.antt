use Rattle.std.proofs.Common.{◌≡◌, true, take}
use Rattle.group_search.specs.Steps.{weigh_steps}
use Rattle.group_search.proofs.step.weight_of.Given as goal

abbrev pub invariant-steps : goal.invariant-steps
invariant-steps l = l.weight ≡ weigh_steps (λ state. true) (take l.step-index l.steps)
