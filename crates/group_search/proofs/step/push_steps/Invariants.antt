use Rattle.std.proofs.Common.{◌≡◌, ◌++◌, take}
use Rattle.group_search.specs.Steps.{steps_along}
use Rattle.group_search.proofs.step.push_steps.Given as goal

abbrev pub invariant-edges : goal.invariant-edges
invariant-edges l = l.steps.items ≡ l.fn.steps.items ++ steps_along l.weight (take l.edge-index l.edges)
