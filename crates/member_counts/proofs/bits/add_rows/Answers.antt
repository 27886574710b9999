use Rattle.std.proofs.Common.{◌≡◌, ◌≢◌, ◌/◌, ◌%◌, ◌<◌, length, get_or, get_or-set_same, get_or-set_other, inl, inr, arith, ◌∙◌}
use Rattle.std.proofs.lemmas.Bool.{cases_lt, cases_eq}
use Rattle.std.proofs.lemmas.List.{get_or_past, length-set}
use Rattle.std.proofs.lemmas.Nat.Bits.{bit_at-zero}
use Rattle.member_counts.proofs.bits.add_rows.Goals as goal

pub loop-index-preserved : goal.loop-index-preserved
loop-index-preserved g c =
    let (long, carry_long, done, rest, free) = c.loop-index.invariant in
    let at = c.loop-index.index in
    let inside : c.loop-index.index < length c.loop-index.sum = omega arith in
    let room : c.loop-index.index < length c.loop-index.carry = omega arith in (
      length-set c.loop-index.sum c.loop-index.index c.add_bits-low.result.0 ∙ long,
      length-set c.loop-index.carry c.loop-index.index c.add_bits-low.result.1 ∙ carry_long,
      (λ k i below. elim (cases_eq k c.loop-index.index) [
        | inl same ↦ rw (same, get_or-set_same c.loop-index.sum c.loop-index.index c.add_bits-low.result.0 0 inside, get_or-set_same c.loop-index.carry c.loop-index.index c.add_bits-low.result.1 0 room, ← rest c.loop-index.index (omega arith))
            (c.add_bits-low.ensures i)
        | inr other ↦ rw (get_or-set_other c.loop-index.sum c.loop-index.index k c.add_bits-low.result.0 0 other, get_or-set_other c.loop-index.carry c.loop-index.index k c.add_bits-low.result.1 0 other)
            (done k i (omega arith))
      ]),
      (λ k behind.
          let other : k ≢ c.loop-index.index = λ same. omega arith in
          rw (get_or-set_other c.loop-index.sum c.loop-index.index k c.add_bits-low.result.0 0 other) (rest k (omega arith))),
      (λ k behind.
          let other : k ≢ c.loop-index.index = λ same. omega arith in
          rw (get_or-set_other c.loop-index.carry c.loop-index.index k c.add_bits-low.result.1 0 other) (free k (omega arith))),
    )

pub returns : goal.returns
returns g c q =
    let (long, carry_long, done, rest, free) = c.loop-index.invariant in
    elim (cases_lt (q / 64) c.loop-index.index) [
      | inl below ↦ done (q / 64) (q % 64) below
      | inr behind ↦
          let one : get_or c.args.one.now (q / 64) 0 ≡ 0 = get_or_past c.args.one.now (q / 64) 0 (omega arith) in
          let other : get_or c.args.other.now (q / 64) 0 ≡ 0 = get_or_past c.args.other.now (q / 64) 0 (omega arith) in
          rw (rest (q / 64) behind, free (q / 64) behind, one, other) (omega (arith, bit_at-zero (q % 64)))
    ]
