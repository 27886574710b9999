use Rattle.std.proofs.Common.{ap, arith, rules}
use Rattle.mine_model.specs.declared.row.Row.{Row}
use Rattle.made_input.proofs.SummingLemmas.{supports-next}
use Rattle.made_input.proofs.summing.supports.Goals as goal

pub loop-row-preserved : goal.loop-row-preserved
loop-row-preserved c = (
  (λ names.
      let so_far = c.loop-row.invariant.0 names in
      let more = supports-next names c.args.rows.now c.loop-row.row-index c.row-item.result c.loop-row-test.true in
      let here = ap (λ (r : Row). r.support) c.row-item.is in
      let widened = c.from-sum.ensures in
      omega (arith, so_far, more, here, widened)),
  search rules,
)
