use Rattle.std.proofs.Common.{◌≡◌, ℕ, ◌<◌, ◌≤◌, get_or, bit_and}
use Rattle.state_bits.proofs.words.keep_words.Given as goal

abbrev pub invariant-loop-index : goal.invariant-loop-index
invariant-loop-index l =
    ((k : ℕ) → k < l.index → get_or l.words k 0 ≡ bit_and (get_or l.initial.words k 0) (get_or l.other k 0))
    × ((k : ℕ) → l.index ≤ k → get_or l.words k 0 ≡ get_or l.initial.words k 0)
