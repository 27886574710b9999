-- The words of a set, and the number that they are.
use Rattle.std.proofs.Common.{◌≡◌, ℕ, zero, suc, ◌-◌, ◌/◌, ◌%◌, ◌^◌, ◌<◌, List, [], ◌∷◌, length, get_or, replicate, arith, refl, sym, ap, ◌∙◌, inl, inr}
use Rattle.std.specs.Int.{bit_at}
use Rattle.std.proofs.lemmas.Nat.Bits.{bit_at-zero, bit_at_cat_low, bit_at_cat_high}
use Rattle.std.proofs.lemmas.Bool.{cases_lt}
use Rattle.std.proofs.lemmas.List.{get_or_past}
use Rattle.state_bits.specs.Members.{Has, words_of}
use Rattle.state_bits.specs.Words.{joined, AreWords}
use Rattle.state_bits.specs.WordLaws.{words_of_set}

-- words below 2 ^ 64
abbrev pub Fit : List ℕ → Type 0
Fit words = (k : ℕ) → get_or words k 0 < 2 ^ 64

pub bit_at-joined : (words : List ℕ) → Fit words → (q : ℕ) → bit_at (joined words) q ≡ bit_at (get_or words (q / 64) 0) (q % 64)
unfolding joined
bit_at-joined [] fit q = bit_at-zero q ∙ sym (bit_at-zero (q % 64))
bit_at-joined (word ∷ words) fit q =
    elim (cases_lt q 64) [
      | inl low ↦ let zeroth : q / 64 ≡ 0 = omega arith in let same : q % 64 ≡ q = omega arith in rw (zeroth, same) (bit_at_cat_low (joined words) 64 word q low)
      | inr high ↦
          let later : q / 64 ≡ suc ((q - 64) / 64) = omega arith in
          let same : q % 64 ≡ (q - 64) % 64 = omega arith in
          rw (later, same) (bit_at_cat_high (joined words) 64 word q (fit 0) high ∙ bit_at-joined words (λ k. fit (suc k)) (q - 64))
    ]

-- bit q of the words
abbrev pub bit_of : List ℕ → ℕ → ℕ
bit_of words q = bit_at (get_or words (q / 64) 0) (q % 64)

-- a state is a member exactly where its bit is set
pub bit_from_member : (words : List ℕ) (q : ℕ) → Fit words → Has (joined words) q → bit_of words q ≡ 1
unfolding Has
bit_from_member words q fit has = sym (bit_at-joined words fit q) ∙ has

pub member_from_bit : (words : List ℕ) (q : ℕ) → Fit words → bit_of words q ≡ 1 → Has (joined words) q
unfolding Has
member_from_bit words q fit one = bit_at-joined words fit q ∙ one

-- a member has its bit in one of the words
pub member_within : (words : List ℕ) (q : ℕ) → Fit words → Has (joined words) q → q / 64 < length words
member_within words q fit has =
    elim (cases_lt (q / 64) (length words)) [
      | inl inside ↦ inside
      | inr outside ↦
          let past : get_or words (q / 64) 0 ≡ 0 = get_or_past words (q / 64) 0 outside in
          let none : bit_of words q ≡ 0 = rw past (bit_at-zero (q % 64)) in
          let one = bit_from_member words q fit has in
          absurd (omega arith)
    ]

pub joined-zero : (words : List ℕ) → ((k : ℕ) → get_or words k 0 ≡ 0) → joined words ≡ 0
unfolding joined
joined-zero [] none = refl
joined-zero (word ∷ words) none = omega (arith, none 0, joined-zero words (λ k. none (suc k)))

pub joined-some : (words : List ℕ) → joined words ≡ 0 → (k : ℕ) → get_or words k 0 ≡ 0
unfolding joined
joined-some [] empty k = refl
joined-some (word ∷ words) empty zero = omega arith
joined-some (word ∷ words) empty (suc k) = joined-some words (omega arith) k

-- the same words, where they are the same number
pub same_words : (width : ℕ) (words others : List ℕ) → AreWords width words → AreWords width others → joined words ≡ joined others → words ≡ others
same_words width words others are others_are same =
    sym (words_of_set width words are) ∙ ap (words_of width) same ∙ words_of_set width others others_are

pub joined-replicate : (width : ℕ) → joined (replicate width 0) ≡ 0
unfolding joined
joined-replicate zero = refl
joined-replicate (suc width) = omega (arith, joined-replicate width)

pub length-words_of : (width set : ℕ) → length (words_of width set) ≡ width
unfolding words_of
length-words_of zero set = refl
length-words_of (suc width) set = ap suc (length-words_of width (set / 2 ^ 64))
