use Rattle.std.proofs.Common.{◌≡◌, ℕ, ◌<◌, true, false, length, get_or}
use Rattle.pattern_proof.proofs.listing.marks.Given as goal

abbrev pub invariant-loop-number : goal.invariant-loop-number
invariant-loop-number l = record {
  whole : length l.marked.items ≡ l.items;
  marked : (k : ℕ) → k < l.number-index → k < length l.numbers → get_or l.marked.items (get_or l.numbers k 0) false ≡ true;
}
