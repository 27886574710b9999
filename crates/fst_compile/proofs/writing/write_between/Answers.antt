use Rattle.std.proofs.Common.{get_or}
use Rattle.std.proofs.lemmas.List.{get_or_default}
use Rattle.std.proofs.lemmas.Bool.{both_ways}
use Rattle.mine_model.specs.declared.item.Item.{Item}
use Rattle.fst_compile.proofs.OutputLemmas.{IsKeptSoFar-skip, IsKeptSoFar-keep, IsKeptSoFar-all}
use Rattle.fst_compile.proofs.writing.write_between.Goals as goal
use Rattle.fst_compile.proofs.writing.write_between.Goals.{then-is_above+in_ok-push_or_clear, else-is_above}

pub returns-clause-between : goal.returns-clause-between
returns-clause-between c =
    IsKeptSoFar-all c.args.hierarchy.now.links c.args.t c.args.w c.ancestors-v-items.result.now c.loop-v.out.items c.loop-v.v-index c.loop-v.invariant c.loop-v-test.false
    c.loop-v.auto.v-index-end c.ancestors-v-items.ensures.ancestors

pub loop-v-preserved : goal.loop-v-preserved
loop-v-preserved c =
    let zeroth : Item = record { 0 = 0 } in
    let v : Item = get_or c.ancestors-v-items.result.now c.loop-v.v-index zeroth in
    elim c.if-is_above.branch [
      | then-is_above+in_ok-push_or_clear w ↦
          rw (w.out-is, w.in_ok-push_or_clear.ensures.ok)
          (IsKeptSoFar-keep c.args.hierarchy.now.links c.args.w c.ancestors-v-items.result.now c.loop-v.out.items c.loop-v.v-index v c.ancestors-v-items.ensures.rising c.loop-v.invariant c.loop-v-test.true
          (get_or_default c.ancestors-v-items.result.now c.loop-v.v-index v zeroth c.loop-v-test.true) (c.is_above.ensures.0 w.if-is_above.true))
      | else-is_above w ↦
          rw w.out-is
          (IsKeptSoFar-skip c.args.hierarchy.now.links c.args.w c.ancestors-v-items.result.now c.loop-v.out.items c.loop-v.v-index c.loop-v.invariant c.loop-v-test.true
          (λ d is. both_ways c.is_above.result w.if-is_above.false
          (c.is_above.ensures.1 (rw (get_or_default c.ancestors-v-items.result.now c.loop-v.v-index d zeroth c.loop-v-test.true) at is))))
    ]
