use Rattle.fst_compile.proofs.RowLemmas.{IsSetSoFar-none, IsSetSoFar-more, IsSetSoFar-all}
use Rattle.sequence_grids.proofs.table.set_of.Goals as goal

pub loop-k-init : goal.loop-k-init
loop-k-init g c = rw c.new-set.ensures (IsSetSoFar-none c.args.states.now)

pub loop-k-preserved : goal.loop-k-preserved
loop-k-preserved g c = IsSetSoFar-more c.loop-k.set c.add.new.self c.args.states.now c.loop-k.k-index c.loop-k.invariant c.loop-k-test.true c.add.ensures

pub returns : goal.returns
returns g c = IsSetSoFar-all c.loop-k.set c.args.states.now c.loop-k.k-index c.loop-k.invariant c.loop-k-test.false
