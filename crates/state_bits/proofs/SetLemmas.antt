-- What one operation on words makes of the sets that they are.
use Rattle.std.proofs.Common.{◌≡◌, ◌≢◌, ℕ, ◌*◌, ◌/◌, ◌%◌, ◌^◌, ◌<◌, ◌⊎◌, ◌↔◌, inl, inr, List, length, set, get_or, max, min, bit_and, bit_or, arith, refl, sym, ◌∙◌, w64, get_or-set_other, get_or-set_same}
use Rattle.std.proofs.Math.ListN.{length-set}
use Rattle.std.proofs.lemmas.Nat.{or_lt, and_le_l}
use Rattle.std.proofs.lemmas.Nat.Bits.{bit_at-lt, bit_at_or, bit_at_and, bit_at_set_same, bit_at_set_other}
use Rattle.std.proofs.lemmas.Bool.{cases_eq}
use Rattle.state_bits.specs.Members.{Has, HasBit}
use Rattle.state_bits.specs.Words.{joined, AreWords}
use Rattle.state_bits.proofs.WordLemmas.{Fit, bit_of, bit_from_member, member_from_bit}

-- the word with one bit more
abbrev pub marked : List ℕ → ℕ → ℕ
marked words q = bit_or (get_or words (q / 64) 0) (1 * 2 ^ (q % 64) % 2 ^ 64)

-- words with one bit more
abbrev pub with_bit : List ℕ → ℕ → List ℕ
with_bit words q = set words (q / 64) (marked words q)

get_or-with_bit : (words : List ℕ) (q k : ℕ) → q / 64 < length words →
    (get_or (with_bit words q) k 0 ≡ get_or words k 0) ⊎ ((k ≡ q / 64) × (get_or (with_bit words q) k 0 ≡ marked words q))
get_or-with_bit words q k inside =
    elim (cases_eq k (q / 64)) [
      | inl same ↦ inr (same, rw same (get_or-set_same words (q / 64) (marked words q) 0 inside))
      | inr other ↦ inl (get_or-set_other words (q / 64) k (marked words q) 0 other)
    ]

pub AreWords-with_bit : (width : ℕ) (words : List ℕ) (q : ℕ) → AreWords width words → q / 64 < length words → q < 2 ^ 32 → AreWords width (with_bit words q)
AreWords-with_bit width words q are inside small = record {
  long = rw length-set are.long;
  fit = λ k. elim (get_or-with_bit words q k inside) [
    | inl same ↦ rw same (are.fit k)
    | inr (_, new) ↦ rw new (or_lt 64 (get_or words (q / 64) 0) (1 * 2 ^ (q % 64) % 2 ^ 64) (are.fit (q / 64)) (omega arith))
  ];
  far_empty = λ k far. elim (get_or-with_bit words q k inside) [
    | inl same ↦ same ∙ are.far_empty k far
    | inr (here, _) ↦ absurd (omega arith)
  ];
}

bit_of-with_bit_same : (words : List ℕ) (q : ℕ) → q / 64 < length words → bit_of (with_bit words q) q ≡ 1
bit_of-with_bit_same words q inside = rw get_or-set_same (bit_at_set_same w64 (get_or words (q / 64) 0) (q % 64) (omega arith))

bit_of-with_bit_other : (words : List ℕ) (q r : ℕ) → q / 64 < length words → r ≢ q → bit_of (with_bit words q) r ≡ bit_of words r
bit_of-with_bit_other words q r inside other =
    elim (cases_eq (r / 64) (q / 64)) [
      | inl same ↦
          let apart : r % 64 ≢ q % 64 = λ equal. other (omega arith) in
          rw same (rw get_or-set_same (bit_at_set_other w64 (get_or words (q / 64) 0) (q % 64) (omega arith) (r % 64) apart))
      | inr apart ↦ rw (get_or-set_other words (q / 64) (r / 64) (marked words q) 0 apart)
    ]

pub Has-with_bit : (words : List ℕ) (q : ℕ) → Fit words → Fit (with_bit words q) → q / 64 < length words
    → (r : ℕ) → Has (joined (with_bit words q)) r ↔ (Has (joined words) r ⊎ (r ≡ q))
Has-with_bit words q fit fits inside r =
    elim (cases_eq r q) [
      | inl same ↦ (
        (λ _. inr same),
        (λ _. rw same (member_from_bit (with_bit words q) q fits (bit_of-with_bit_same words q inside))),
      )
      | inr other ↦
          let stays = bit_of-with_bit_other words q r inside other in (
            (λ has. inl (member_from_bit words r fit (sym stays ∙ bit_from_member (with_bit words q) r fits has))),
            (λ has. elim has [
              | inl had ↦ member_from_bit (with_bit words q) r fits (stays ∙ bit_from_member words r fit had)
              | inr same ↦ absurd (other same)
            ]),
          )
    ]

either_is_one : (x y : ℕ) → x < 2 → y < 2 → max x y ≡ 1 → (x ≡ 1) ⊎ (y ≡ 1)
either_is_one x y x_small y_small one = elim (cases_eq x 1) [ inl here ↦ inl here | inr not_here ↦ inr (omega arith) ]

pub Has-or : (words more both : List ℕ) → Fit words → Fit more → Fit both → ((k : ℕ) → get_or both k 0 ≡ bit_or (get_or words k 0) (get_or more k 0))
    → (r : ℕ) → Has (joined both) r ↔ (Has (joined words) r ⊎ Has (joined more) r)
Has-or words more both fit more_fit both_fit are r =
    let bits : bit_of both r ≡ max (bit_of words r) (bit_of more r) = rw (are (r / 64)) (bit_at_or (get_or words (r / 64) 0) (get_or more (r / 64) 0) (r % 64)) in
    let small = bit_at-lt (get_or words (r / 64) 0) (r % 64) in
    let more_small = bit_at-lt (get_or more (r / 64) 0) (r % 64) in (
      (λ has. elim (either_is_one (bit_of words r) (bit_of more r) small more_small (sym bits ∙ bit_from_member both r both_fit has)) [
        | inl here ↦ inl (member_from_bit words r fit here)
        | inr there ↦ inr (member_from_bit more r more_fit there)
      ]),
      (λ has. member_from_bit both r both_fit (elim has [
        | inl here ↦ let one = bit_from_member words r fit here in omega arith
        | inr there ↦ let one = bit_from_member more r more_fit there in omega arith
      ])),
    )

pub Has-and_bits : (words more both : List ℕ) → Fit words → Fit both → ((k : ℕ) → get_or both k 0 ≡ bit_and (get_or words k 0) (get_or more k 0))
    → (r : ℕ) → Has (joined both) r ↔ (Has (joined words) r × HasBit more r)
Has-and_bits words more both fit both_fit are r =
    let bits : bit_of both r ≡ min (bit_of words r) (bit_of more r) = rw (are (r / 64)) (bit_at_and (get_or words (r / 64) 0) (get_or more (r / 64) 0) (r % 64)) in
    let small = bit_at-lt (get_or words (r / 64) 0) (r % 64) in
    let more_small = bit_at-lt (get_or more (r / 64) 0) (r % 64) in (
      (λ has. let one = bit_from_member both r both_fit has in (member_from_bit words r fit (omega arith), omega arith)),
      (λ (here, there). member_from_bit both r both_fit (let one = bit_from_member words r fit here in omega arith)),
    )

pub Has-and : (words more both : List ℕ) → Fit words → Fit more → Fit both → ((k : ℕ) → get_or both k 0 ≡ bit_and (get_or words k 0) (get_or more k 0))
    → (r : ℕ) → Has (joined both) r ↔ (Has (joined words) r × Has (joined more) r)
Has-and words more both fit more_fit both_fit are r =
    let (from, to) = Has-and_bits words more both fit both_fit are r in (
      (λ has. let (here, there) = from has in (here, member_from_bit more r more_fit there)),
      (λ (here, there). to (here, bit_from_member more r more_fit there)),
    )

pub AreWords-or : (width : ℕ) (words more both : List ℕ) → AreWords width words → AreWords width more → length both ≡ length words
    → ((k : ℕ) → get_or both k 0 ≡ bit_or (get_or words k 0) (get_or more k 0)) → AreWords width both
AreWords-or width words more both are more_are long bits = record {
  long = long ∙ are.long;
  fit = λ k. rw (bits k) (or_lt 64 (get_or words k 0) (get_or more k 0) (are.fit k) (more_are.fit k));
  far_empty = λ k far. rw (bits k, are.far_empty k far, more_are.far_empty k far) refl;
}

pub AreWords-and : (width : ℕ) (words more both : List ℕ) → AreWords width words → length both ≡ length words
    → ((k : ℕ) → get_or both k 0 ≡ bit_and (get_or words k 0) (get_or more k 0)) → AreWords width both
AreWords-and width words more both are long bits = record {
  long = long ∙ are.long;
  fit = λ k. omega (arith, bits k, and_le_l (get_or words k 0) (get_or more k 0), are.fit k);
  far_empty = λ k far. rw (bits k, are.far_empty k far) refl;
}
