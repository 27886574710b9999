-- A walk over the bits of words.
use Rattle.std.proofs.Common.{◌≡◌, ◌≢◌, ℕ, zero, suc, ◌+◌, ◌-◌, ◌*◌, ◌/◌, ◌%◌, ◌^◌, ◌<◌, ◌≤◌, ◌↔◌, Bool, true, false, eqb, inl, inr, List, [], ◌∷◌, length, get_or, filter, Contains, All, bit_and, arith, refl, sym, ap, ◌∙◌, subst, w64, lt-ltb, eq-eqb}
use Rattle.std.specs.Int.{bit_at, bit_not, trailing_zeros}
use Rattle.std.specs.List.{range_with_len}
use Rattle.std.specs.List.Sorted.{IsStrictlyIncreasing}
use Rattle.std.proofs.lemmas.Nat.{and_le_l}
use Rattle.std.proofs.lemmas.Nat.Bits.{bit_at-zero, bit_at-trailing_zeros, bit_at_clear_same, bit_at_clear_other}
use Rattle.std.proofs.lemmas.Bool.{cases_lt, cases_eq, cases_Bool, le-ltb, ne_eqb, eqb-true}
use Rattle.std.proofs.lemmas.List.Elements.{All-filter, filter_passes}
use Rattle.std.proofs.lemmas.List.FromFn.{get_or-range_with_len, length-range_with_len}
use Rattle.std.proofs.lemmas.List.Kept.{IsStrictlyIncreasing-filter}
use Rattle.state_bits.specs.Members.{Has}
use Rattle.state_bits.specs.Words.{joined, AreWords}
use Rattle.state_bits.specs.Left.{is_left, left, IsPlace}
use Rattle.state_bits.proofs.WordLemmas.{bit_of, bit_from_member, member_from_bit, member_within}

-- ---- a filter of a range

filter-same : (p r : ℕ → Bool) (a n : ℕ) → ((q : ℕ) → a ≤ q → q < a + n → p q ≡ r q) → filter p (range_with_len a n) ≡ filter r (range_with_len a n)
filter-same p r a zero same = refl
filter-same p r a (suc n) same =
    let rest = filter-same p r (a + 1) n (λ q low high. same q (omega arith) (omega arith)) in
    let here : p a ≡ r a = same a (omega arith) (omega arith) in
    rw (here, rest)

filter-none : (p : ℕ → Bool) (a n : ℕ) → ((q : ℕ) → a ≤ q → q < a + n → p q ≡ false) → filter p (range_with_len a n) ≡ []
filter-none p a zero none = refl
filter-none p a (suc n) none =
    let here : p a ≡ false = none a (omega arith) (omega arith) in
    rw here (filter-none p (a + 1) n (λ q low high. none q (omega arith) (omega arith)))

filter-first : (p r : ℕ → Bool) (a n first : ℕ) → a ≤ first → first < a + n → p first ≡ true → r first ≡ false
    → ((q : ℕ) → q < first → p q ≡ false) → ((q : ℕ) → q ≢ first → r q ≡ p q)
    → filter p (range_with_len a n) ≡ first ∷ filter r (range_with_len a n)
filter-first p r a zero first low high passes taken before others = absurd (omega arith)
filter-first p r a (suc n) first low high passes taken before others =
    elim (cases_eq a first) [
      | inl same ↦
          let here : p a ≡ true = rw same passes in
          let gone : r a ≡ false = rw same taken in
          let rest : filter p (range_with_len (a + 1) n) ≡ filter r (range_with_len (a + 1) n) =
          filter-same p r (a + 1) n (λ q low high. sym (others q (λ equal. absurd (omega arith)))) in
          rw (here, gone, rest) (ap (λ (q : ℕ). q ∷ filter r (range_with_len (a + 1) n)) same)
      | inr apart ↦
          let here : p a ≡ false = before a (omega arith) in
          let gone : r a ≡ false = others a apart ∙ here in
          rw (here, gone) (filter-first p r (a + 1) n first (omega arith) (omega arith) passes taken before others)
    ]

Contains-filter-cons : (p : ℕ → Bool) (x : ℕ) (xs : List ℕ) (q : ℕ) → Contains (filter p xs) q → Contains (filter p (x ∷ xs)) q
Contains-filter-cons p x xs q (k, inside, found) =
    elim (cases_Bool (p x)) [
      | inl passes ↦ rw passes (suc k, omega arith, found)
      | inr fails ↦ rw fails (k, inside, found)
    ]

Contains-filter : (p : ℕ → Bool) (a n q : ℕ) → a ≤ q → q < a + n → p q ≡ true → Contains (filter p (range_with_len a n)) q
Contains-filter p a zero q low high passes = absurd (omega arith)
Contains-filter p a (suc n) q low high passes =
    elim (cases_eq a q) [
      | inl same ↦
          let here : p a ≡ true = rw same passes in
          rw here (0, omega arith, same)
      | inr apart ↦ Contains-filter-cons p a (range_with_len (a + 1) n) q (Contains-filter p (a + 1) n q (omega arith) (omega arith) passes)
    ]

-- ---- what is left

is_left-read : (words : List ℕ) (read rest q : ℕ) → q / 64 + 1 < read → is_left words read rest q ≡ false
unfolding is_left
is_left-read words read rest q behind = rw (lt-ltb (q / 64 + 1) read behind)

is_left-here : (words : List ℕ) (read rest q : ℕ) → q / 64 + 1 ≡ read → is_left words read rest q ≡ eqb (bit_at rest (q % 64)) 1
unfolding is_left
is_left-here words read rest q here = rw (le-ltb (q / 64 + 1) read (omega arith), eq-eqb (q / 64 + 1) read here)

is_left-ahead : (words : List ℕ) (read rest q : ℕ) → read < q / 64 + 1 → is_left words read rest q ≡ eqb (bit_of words q) 1
unfolding is_left
is_left-ahead words read rest q ahead = rw (le-ltb (q / 64 + 1) read (omega arith), ne_eqb (q / 64 + 1) read (λ same. omega arith))

no_bit : (q : ℕ) → eqb (bit_at 0 (q % 64)) 1 ≡ false
no_bit q = rw bit_at-zero

pub left-next : (width : ℕ) (words : List ℕ) (read : ℕ) → left width words read 0 ≡ left width words (read + 1) (get_or words read 0)
unfolding left
left-next width words read = filter-same (is_left words read 0) (is_left words (read + 1) (get_or words read 0)) 0 (64 * width) (λ q low high.
    elim (cases_lt (q / 64 + 1) (read + 1)) [
      | inl behind ↦ elim (cases_eq (q / 64 + 1) read) [
        | inl here ↦ is_left-here words read 0 q here ∙ (no_bit q ∙ sym (is_left-read words (read + 1) (get_or words read 0) q behind))
        | inr apart ↦ is_left-read words read 0 q (omega arith) ∙ sym (is_left-read words (read + 1) (get_or words read 0) q behind)
      ]
      | inr ahead ↦ elim (cases_eq (q / 64 + 1) (read + 1)) [
        | inl here ↦
            let word : read ≡ q / 64 = omega arith in
            is_left-ahead words read 0 q (omega arith) ∙ (rw word refl ∙ sym (is_left-here words (read + 1) (get_or words read 0) q here))
        | inr apart ↦ is_left-ahead words read 0 q (omega arith) ∙ sym (is_left-ahead words (read + 1) (get_or words read 0) q (omega arith))
      ]
    ])

pub left-none : (width : ℕ) (words : List ℕ) (read : ℕ) → width ≤ read → left width words read 0 ≡ []
unfolding left
left-none width words read over = filter-none (is_left words read 0) 0 (64 * width) (λ q low high.
    elim (cases_lt (q / 64 + 1) read) [
      | inl behind ↦ is_left-read words read 0 q behind
      | inr last ↦ is_left-here words read 0 q (omega arith) ∙ no_bit q
    ])

-- without its lowest bit
abbrev pub without_lowest : ℕ → ℕ
without_lowest word = bit_and word (bit_not w64 (1 * 2 ^ trailing_zeros w64 word % 2 ^ 64))

take_bit : (width : ℕ) (words : List ℕ) (read rest bit : ℕ) → 0 < read → read ≤ width → bit < 64 → bit_at rest bit ≡ 1 → ((k : ℕ) → k < bit → bit_at rest k ≡ 0)
    → filter (is_left words read rest) (range_with_len 0 (64 * width))
    ≡ ((read - 1) * 64 + bit) ∷ filter (is_left words read (bit_and rest (bit_not w64 (1 * 2 ^ bit % 2 ^ 64)))) (range_with_len 0 (64 * width))
take_bit width words read rest bit begun within inside one zeros =
    let first : ℕ = (read - 1) * 64 + bit in
    let after : ℕ = bit_and rest (bit_not w64 (1 * 2 ^ bit % 2 ^ 64)) in
    let word : ((read - 1) * 64 + bit) / 64 + 1 ≡ read = omega arith in
    let place : ((read - 1) * 64 + bit) % 64 ≡ bit = omega arith in
    filter-first (is_left words read rest) (is_left words read after) 0 (64 * width) ((read - 1) * 64 + bit) (omega arith) (omega arith)
    (is_left-here words read rest ((read - 1) * 64 + bit) word ∙ rw (place, one) refl)
    (is_left-here words read after ((read - 1) * 64 + bit) word ∙ rw (place, bit_at_clear_same w64 rest bit inside) refl)
    (λ q below. elim (cases_lt (q / 64 + 1) read) [
      | inl behind ↦ is_left-read words read rest q behind
      | inr here ↦ is_left-here words read rest q (omega arith) ∙ rw (zeros (q % 64) (omega arith)) refl
    ])
    (λ q apart. elim (cases_lt (q / 64 + 1) read) [
      | inl behind ↦ is_left-read words read after q behind ∙ sym (is_left-read words read rest q behind)
      | inr not_behind ↦ elim (cases_lt read (q / 64 + 1)) [
        | inl ahead ↦ is_left-ahead words read after q ahead ∙ sym (is_left-ahead words read rest q ahead)
        | inr here ↦
            let other_bit : q % 64 ≢ bit = λ same. apart (omega arith) in
            let this : q / 64 + 1 ≡ read = omega arith in
            is_left-here words read after q this ∙ (rw (bit_at_clear_other w64 rest bit inside (q % 64) (omega arith) other_bit) refl ∙ sym (is_left-here words read rest q this))
      ]
    ])

pub left-take : (width : ℕ) (words : List ℕ) (read rest : ℕ) → IsPlace width read rest → 0 < rest
    → left width words read rest ≡ ((read - 1) * 64 + trailing_zeros w64 rest) ∷ left width words read (without_lowest rest)
unfolding left
left-take width words read rest place some =
    let begun = place.begun some in
    let within = place.within in
    let (inside, one, zeros) = bit_at-trailing_zeros w64 rest some place.fits in
    take_bit width words read rest (trailing_zeros w64 rest) (omega arith) within inside one zeros

pub IsPlace-next : (width : ℕ) (words : List ℕ) (read rest : ℕ) → AreWords width words → IsPlace width read rest → read < length words → IsPlace width (read + 1) (get_or words read 0)
IsPlace-next width words read rest are place more = record {
  within = omega (arith, are.long);
  fits = are.fit read;
  begun = λ _. omega arith;
  near = λ some. elim (cases_lt read (2 ^ 26)) [ inl low ↦ omega arith | inr far ↦ absurd (omega (arith, are.far_empty read far)) ];
}

pub IsPlace-take : (width read rest : ℕ) → IsPlace width read rest → 0 < rest → IsPlace width read (without_lowest rest)
IsPlace-take width read rest place some = record {
  within = place.within;
  fits = omega (arith, and_le_l rest (bit_not w64 (1 * 2 ^ trailing_zeros w64 rest % 2 ^ 64)), place.fits);
  begun = λ _. place.begun some;
  near = λ _. place.near some;
}

-- ---- the whole walk

IsStrictlyIncreasing-range : (a n : ℕ) → IsStrictlyIncreasing (range_with_len a n)
IsStrictlyIncreasing-range a n k inside =
    let short : k + 1 < n = omega (arith, length-range_with_len a n) in
    rw (get_or-range_with_len a n k 0 (omega arith), get_or-range_with_len a n (k + 1) 0 short) (omega arith)

pub IsStrictlyIncreasing-left : (width : ℕ) (words : List ℕ) → IsStrictlyIncreasing (left width words 0 0)
unfolding left
IsStrictlyIncreasing-left width words = IsStrictlyIncreasing-filter (is_left words 0 0) (range_with_len 0 (64 * width)) (IsStrictlyIncreasing-range 0 (64 * width))

pub All-left : (width : ℕ) (words : List ℕ) → All (λ q. q < 64 * width) (left width words 0 0)
unfolding left
All-left width words = All-filter (is_left words 0 0) (λ q. q < 64 * width) (range_with_len 0 (64 * width))
    (λ k d inside. let short : k < 64 * width = omega (arith, length-range_with_len 0 (64 * width)) in rw (get_or-range_with_len 0 (64 * width) k d short) (omega arith))

pub Contains-left : (width : ℕ) (words : List ℕ) → AreWords width words → (q : ℕ) → Contains (left width words 0 0) q ↔ Has (joined words) q
unfolding left
Contains-left width words are q =
    let test = is_left-ahead words 0 0 q (omega arith) in (
      (λ (k, inside, found).
          let passes = filter_passes (is_left words 0 0) (range_with_len 0 (64 * width)) k q inside in
          let here : is_left words 0 0 q ≡ true = subst (λ (x : ℕ). is_left words 0 0 x ≡ true) found passes in
          member_from_bit words q are.fit (eqb-true (bit_of words q) 1 (sym test ∙ here))),
      (λ has.
          let within = member_within words q are.fit has in
          Contains-filter (is_left words 0 0) 0 (64 * width) q (omega arith) (omega (arith, are.long))
          (test ∙ eq-eqb (bit_of words q) 1 (bit_from_member words q are.fit has))),
    )
