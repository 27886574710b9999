use Rattle.std.proofs.Common.{◌≡◌, length}
use Rattle.mine_model.proofs.RankLemmas.{IsFilled}
use Rattle.mine_model.proofs.ranks.table_of.Given as goal

abbrev pub invariant-loop-place : goal.invariant-loop-place
invariant-loop-place l = record {
  filled : IsFilled l.order l.place l.table.items;
  whole : length l.table.items ≡ l.items;
}
