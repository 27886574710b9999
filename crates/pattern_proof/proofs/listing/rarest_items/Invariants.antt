use Rattle.std.proofs.Common.{◌≡◌, ℕ, ◌<◌, length, Contains, vec_len, vec_capacity, get_or, slice_get, Some}
use Rattle.mine_model.specs.declared.row.Row.{Row}
use Rattle.mine_model.specs.Ancestry.{item_at}
use Rattle.pattern_proof.proofs.listing.rarest_items.Given as goal

abbrev pub invariant-loop-row : goal.invariant-loop-row
invariant-loop-row l = record {
  long : vec_len l.numbers ≡ l.row-index;
  room : vec_capacity l.numbers ≡ length l.rows;
  within : (number : ℕ) → number < l.row-index → get_or l.numbers.items number 0 < l.job.hierarchy.items;
  held : (number : ℕ) (row : Row) → number < l.row-index → slice_get l.rows number ≡ Some row → Contains row.pattern (item_at (get_or l.numbers.items number 0));
}
