use Rattle.std.proofs.Common.{take}
use Rattle.mine_model.specs.Ranks.{AreRanked}
use Rattle.mine_model.proofs.patterns.pattern_of.Given as goal

abbrev pub invariant-loop-rank : goal.invariant-loop-rank
invariant-loop-rank l = AreRanked l.ranks.order l.items.items (take l.rank-index l.list)
