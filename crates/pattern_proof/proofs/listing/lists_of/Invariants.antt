use Rattle.std.proofs.Common.{◌≡◌, ℕ, ◌<◌, length, get_or, vec_len, vec_capacity}
use Rattle.pattern_proof.proofs.listing.lists_of.Given as goal

abbrev pub invariant-loop-number : goal.invariant-loop-number
invariant-loop-number l = record {
  long : vec_len l.starts ≡ l.number-index;
  room : vec_capacity l.starts ≡ length l.number-items;
  starts : (k : ℕ) → k < l.number-index → get_or l.starts.items k 0 ≡ get_or l.lister.newest.items (get_or l.number-items k 0) 0;
}
