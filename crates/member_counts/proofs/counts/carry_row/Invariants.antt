use Rattle.std.proofs.Common.{◌≡◌, ℕ, ◌+◌, ◌*◌, ◌^◌}
use Rattle.member_counts.specs.Digits.{bit_in}
use Rattle.member_counts.specs.Counts.{count_in}
use Rattle.member_counts.proofs.counts.carry_row.Given as goal

abbrev pub invariant-loop-digit : goal.invariant-loop-digit
invariant-loop-digit g l =
    (q : ℕ) → count_in l.digits q + 2 ^ l.digit-index * bit_in l.carry q ≡ count_in l.initial.digits q + bit_in l.fn.row q
