use Rattle.std.proofs.Common.{◌≡◌, take, Contains}
use Rattle.group_search.specs.declared.step.Step.{Step}
use Rattle.group_search.proofs.step.run_of.Given as goal

abbrev pub invariant-same : goal.invariant-same
invariant-same l = (step : Step) → Contains (take l.end l.steps) step → step.rank ≡ l.rank
