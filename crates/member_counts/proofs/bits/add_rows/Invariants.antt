use Rattle.std.proofs.Common.{◌≡◌, ℕ, ◌+◌, ◌*◌, ◌<◌, ◌≤◌, get_or, length}
use Rattle.std.specs.Int.{bit_at}
use Rattle.member_counts.proofs.bits.add_rows.Given as goal

abbrev pub invariant-loop-index : goal.invariant-loop-index
invariant-loop-index g l =
    (length l.sum ≡ g.row.W) × (length l.carry ≡ g.row.W)
    × ((k i : ℕ) → k < l.index → bit_at (get_or l.sum k 0) i + 2 * bit_at (get_or l.carry k 0) i ≡ bit_at (get_or l.initial.sum k 0) i + bit_at (get_or l.one k 0) i + bit_at (get_or l.other k 0) i)
    × ((k : ℕ) → l.index ≤ k → get_or l.sum k 0 ≡ get_or l.initial.sum k 0)
    × ((k : ℕ) → l.index ≤ k → get_or l.carry k 0 ≡ 0)
