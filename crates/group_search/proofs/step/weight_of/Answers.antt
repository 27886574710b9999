use Rattle.std.proofs.Common.{arith}
use Rattle.std.proofs.lemmas.List.Sums.{sum_by_more, sum_by_more_le}
use Rattle.group_search.specs.declared.step.Step.{Step}
use Rattle.group_search.proofs.step.weight_of.Goals as goal

abbrev none : Step
none = record { rank = 0; state = 0; weight = 0 }

pub overflow_add-weight : goal.overflow_add-weight
overflow_add-weight c =
    omega (arith, sum_by_more_le (λ (s : Step). s.weight) c.args.steps.now c.steps.step-index none c.steps-test.true, c.requires, c.steps.invariant)

pub steps-preserved : goal.steps-preserved
steps-preserved c =
    omega (arith, sum_by_more (λ (s : Step). s.weight) c.args.steps.now c.steps.step-index none c.steps-test.true, c.steps.invariant)
