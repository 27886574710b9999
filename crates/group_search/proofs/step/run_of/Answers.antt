use Rattle.std.proofs.Common.{List, length, take, sym, subst, arith}
use Rattle.group_search.specs.declared.step.Step.{Step}
use Rattle.group_search.specs.Steps.{IsRun}
use Rattle.group_search.proofs.RunLemmas.{run-some, run-ends, run-whole, run-more}
use Rattle.group_search.proofs.step.run_of.Goals as goal

pub returns-then-step-rank-clause-run : goal.returns-then-step-rank-clause-run
returns-then-step-rank-clause-run c =
    subst (λ (l : List Step). IsRun c.args.rank l c.split_at.result.1.now) (sym c.split_at.ensures.front)
    (subst (λ (l : List Step). IsRun c.args.rank (take c.same.end c.args.steps.now) l) (sym c.split_at.ensures.back)
    (run-ends c.args.steps.now c.same.end c.args.rank c.requires.sorted c.requires.first c.same-test.true c.if-step-rank.true c.same.invariant))

pub returns-then-step-rank-clause-some : goal.returns-then-step-rank-clause-some
returns-then-step-rank-clause-some c = λ some.
    let before = run-some c.args.steps.now c.same.end c.args.rank c.requires.first c.same-test.true c.if-step-rank.true in
    let long = c.split_at.ensures.front_len in
    omega (arith, before, long)

pub same-preserved : goal.same-preserved
same-preserved c = run-more c.args.steps.now c.same.end c.args.rank c.same-test.true c.if-step-rank.false c.same.invariant

pub returns-clause-run : goal.returns-clause-run
returns-clause-run c =
    subst (λ (l : List Step). IsRun c.args.rank l c.split_at-2.result.1.now) (sym c.split_at-2.ensures.front)
    (subst (λ (l : List Step). IsRun c.args.rank (take (length c.args.steps.now) c.args.steps.now) l) (sym c.split_at-2.ensures.back)
    (run-whole c.args.steps.now c.same.end c.args.rank (length c.args.steps.now) c.same-test.false (omega arith) c.same.invariant))
