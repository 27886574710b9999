use Rattle.std.proofs.Common.{ℕ, ◌<◌, ◌≤◌, length, get_or, Contains}
use Rattle.mine_model.specs.declared.item.Item.{Item}
use Rattle.mine_model.specs.Ranks.{frequency_in}
use Rattle.pattern_proof.proofs.listing.rarest.Given as goal

abbrev pub invariant-loop-item : goal.invariant-loop-item
invariant-loop-item l = record {
  held : Contains l.pattern l.found;
  least : (k : ℕ) (d : Item) → k < l.item-index → k < length l.pattern → frequency_in l.job.ranking l.found ≤ frequency_in l.job.ranking (get_or l.pattern k d);
}
