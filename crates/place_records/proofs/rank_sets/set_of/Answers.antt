use Rattle.fst_compile.proofs.RowLemmas.{IsSetSoFar-none, IsSetSoFar-more, IsSetSoFar-all}
use Rattle.place_records.proofs.rank_sets.set_of.Goals as goal

pub loop-rank-init : goal.loop-rank-init
loop-rank-init c = rw c.new-set.ensures (IsSetSoFar-none c.args.ranks.now)

pub loop-rank-preserved : goal.loop-rank-preserved
loop-rank-preserved c = IsSetSoFar-more c.loop-rank.set c.add.new.self c.args.ranks.now c.loop-rank.rank-index c.loop-rank.invariant c.loop-rank-test.true c.add.ensures

pub returns : goal.returns
returns c = IsSetSoFar-all c.loop-rank.set c.args.ranks.now c.loop-rank.rank-index c.loop-rank.invariant c.loop-rank-test.false
