-- Bits of words, and sums of them.
use Rattle.std.proofs.Common.{◌≡◌, ℕ, zero, suc, ◌+◌, ◌-◌, ◌*◌, ◌/◌, ◌%◌, ◌^◌, ◌<◌, min, max, List, bit_and, bit_or, arith, refl, sym, ap, ◌∙◌, inl, inr}
use Rattle.std.specs.Int.{bit_at}
use Rattle.std.specs.Int.RustNames.{bit_xor}
use Rattle.std.proofs.lemmas.Nat.Bits.{bit_at-lt, bit_at_and, bit_at_or, bit_at_xor, bit_at_cat_low, bit_at_cat_high}
use Rattle.std.proofs.lemmas.Bool.{cases_lt}
use Rattle.state_bits.specs.Members.{words_of}
use Rattle.state_bits.proofs.WordLemmas.{length-words_of}
use Rattle.member_counts.specs.Digits.{bit_in}

-- the sum of three bits and what it carries
sum_of_three : (x y z : ℕ) → x < 2 → y < 2 → z < 2 → ((x + y) % 2 + z) % 2 + 2 * max (min x y) (min ((x + y) % 2) z) ≡ x + y + z
sum_of_three zero zero zero x_small y_small z_small = refl
sum_of_three zero zero (suc zero) x_small y_small z_small = refl
sum_of_three zero (suc zero) zero x_small y_small z_small = refl
sum_of_three zero (suc zero) (suc zero) x_small y_small z_small = refl
sum_of_three (suc zero) zero zero x_small y_small z_small = refl
sum_of_three (suc zero) zero (suc zero) x_small y_small z_small = refl
sum_of_three (suc zero) (suc zero) zero x_small y_small z_small = refl
sum_of_three (suc zero) (suc zero) (suc zero) x_small y_small z_small = refl
sum_of_three (suc (suc x)) y z x_small y_small z_small = absurd (omega arith)
sum_of_three x (suc (suc y)) z x_small y_small z_small = absurd (omega arith)
sum_of_three x y (suc (suc z)) x_small y_small z_small = absurd (omega arith)

-- the same of words, bit by bit
pub bits_added : (a b c k : ℕ) → bit_at (bit_xor (bit_xor a b) c) k + 2 * bit_at (bit_or (bit_and a b) (bit_and (bit_xor a b) c)) k ≡ bit_at a k + bit_at b k + bit_at c k
bits_added a b c k =
    rw (bit_at_xor (bit_xor a b) c k, bit_at_or (bit_and a b) (bit_and (bit_xor a b) c) k, bit_at_and a b k, bit_at_and (bit_xor a b) c k, bit_at_xor a b k)
    (sum_of_three (bit_at a k) (bit_at b k) (bit_at c k) (bit_at-lt a k) (bit_at-lt b k) (bit_at-lt c k))

-- the words of a set have its bits
pub bit_in-words_of : (width set q : ℕ) → q < 64 * width → bit_in (words_of width set) q ≡ bit_at set q
unfolding words_of
bit_in-words_of zero set q inside = absurd (omega arith)
bit_in-words_of (suc width) set q inside =
    let high : ℕ = set / 2 ^ 64 in
    let low : ℕ = set % 2 ^ 64 in
    let whole : set ≡ high * 2 ^ 64 + low = omega arith in
    let fits : low < 2 ^ 64 = omega arith in
    elim (cases_lt q 64) [
      | inl here ↦
          let zeroth : q / 64 ≡ 0 = omega arith in
          let same : q % 64 ≡ q = omega arith in
          rw (zeroth, same) (sym (bit_at_cat_low high 64 low q here) ∙ rw (← whole) refl)
      | inr behind ↦
          let later : q / 64 ≡ suc ((q - 64) / 64) = omega arith in
          let same : q % 64 ≡ (q - 64) % 64 = omega arith in
          rw (later, same) (bit_in-words_of width high (q - 64) (omega arith) ∙ (sym (bit_at_cat_high high 64 low q fits behind) ∙ rw (← whole) refl))
    ]

pub word_is : (width : ℕ) (words : List ℕ) (set q : ℕ) → words ≡ words_of width set → q < 64 * width → bit_in words q ≡ bit_at set q
word_is width words set q same inside = ap (λ (ws : List ℕ). bit_in ws q) same ∙ bit_in-words_of width set q inside
