use Rattle.std.proofs.Common.{◌≤◌, ◌∙◌, refl, arith, length-set}
use Rattle.std.specs.List.{slice_index}
use Rattle.pivot_partition.specs.Tops.{GoesUpTo}
use Rattle.pivot_partition.proofs.RowLemmas.{written-none, written-more}
use Rattle.pivot_partition.proofs.table.enter.Goals as goal

pub loop-state-init : goal.loop-state-init
loop-state-init c = record {
  long = refl;
  least = written-none (λ state p. GoesUpTo c.args.reading.now state p × (slice_index c.args.below.now state ≤ p)) c.args.entered.now;
}

pub loop-state-preserved : goal.loop-state-preserved
loop-state-preserved c = record {
  long = length-set c.loop-state.entered c.loop-state.state c.enter_state.result ∙ c.loop-state.invariant.long;
  least = written-more (λ state p. GoesUpTo c.args.reading.now state p × (slice_index c.args.below.now state ≤ p)) c.loop-state.entered c.loop-state.state c.enter_state.result (omega (arith, c.loop-state-test.true, c.loop-state.invariant.long))
      c.enter_state.ensures c.loop-state.invariant.least;
}

pub returns-clause-least : goal.returns-clause-least
returns-clause-least c = λ state p least less below. c.loop-state.invariant.least state p least (omega (arith, less, c.loop-state-test.false)) below
