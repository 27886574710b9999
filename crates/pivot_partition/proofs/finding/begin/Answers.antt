use Rattle.std.proofs.Common.{◌<◌, ◌≢◌, ◌∙◌, length, arith, get_or-set_other, get_or-set_same, below_more}
use Rattle.pivot_partition.proofs.finding.begin.Goals as goal

pub loop-top-preserved : goal.loop-top-preserved
loop-top-preserved c =
    below_more _ _
    (λ k h. let ne : k ≢ c.loop-top.top-index = omega arith in rw get_or-set_other (c.loop-top.invariant k h))
    (let lt : c.loop-top.top-index < length c.loop-top.front = omega arith in rw get_or-set_same)

pub returns-clause-others : goal.returns-clause-others
returns-clause-others c = λ state least less.
    let ne : state ≢ 0 = omega arith in
    get_or-set_other c.loop-top.front 0 state 0 0 ne ∙ c.loop-top.invariant state (omega arith)
