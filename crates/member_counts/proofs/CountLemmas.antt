-- Counts by their digits.
use Rattle.std.proofs.Common.{Bool, true, false, ◌==◌, ◌≢◌, None, ◌≡◌, ℕ, zero, suc, ◌+◌, ◌-◌, ◌*◌, ◌/◌, ◌%◌, ◌^◌, ◌<◌, ◌≤◌, ◌⊎◌, ◌↔◌, List, [], ◌∷◌, ◌++◌, length, get_or, set, take, drop, map, replicate, arith, refl, sym, ap, subst, ◌∙◌, inl, inr}
use Rattle.std.specs.List.{range_with_len}
use Rattle.std.specs.Bool.{OnTrue, OnFalse}
use Rattle.std.proofs.Math.Nat.{mul-le-mul_left}
use Rattle.std.proofs.lemmas.List.{drop_more, take_more, take_more_set, get_or_append_left, get_or-append-add, length-take-le, take_all, get_or_past, ext_get_or, get_or-replicate, length-replicate}
use Rattle.std.proofs.lemmas.List.FromFn.{length-map-range_with_len, get_or-map-range_with_len}
use Rattle.std.proofs.lemmas.Bool.{cases_lt, cases_eq, eqb-true, eqb-false}
use Rattle.std.specs.Int.{bit_at}
use Rattle.std.proofs.lemmas.Nat.Bits.{bit_at-lt, bit_at-zero}
use Rattle.state_bits.specs.Members.{Has, HasBit}
use Rattle.state_bits.proofs.NeighbourLemmas.{Has-none}
use Rattle.member_counts.specs.declared.digits.Digits.{Digits}
use Rattle.member_counts.specs.declared.low.Low.{Low}
use Rattle.member_counts.specs.Digits.{digit, bit_in, low_count}
use Rattle.member_counts.specs.Counts.{count_in, sets_with, added_up, count_of, counts_in, AreCounts}

pub pow_suc : (k : ℕ) → 2 ^ suc k ≡ 2 * 2 ^ k
pow_suc k = omega arith

pub pow_more : (k : ℕ) → 2 ^ (k + 1) ≡ 2 * 2 ^ k
pow_more k = let next : k + 1 ≡ suc k = omega arith in rw next (pow_suc k)

-- one digit more in front
pub count_in-push : {W : ℕ} (ds : List (Digits W)) (d : Digits W) (q : ℕ) → count_in (ds ++ d ∷ []) q ≡ count_in ds q + 2 ^ length ds * digit d q
unfolding count_in
count_in-push [] d q = omega arith
count_in-push (x ∷ ds) d q =
    let more = count_in-push ds d q in
    let scaled : 2 ^ suc (length ds) * digit d q ≡ 2 * 2 ^ length ds * digit d q = ap (λ n. n * digit d q) (pow_suc (length ds)) in
    omega arith

-- another digit at a place
pub count_in-set : {W : ℕ} (ds : List (Digits W)) (k : ℕ) (d e : Digits W) (q : ℕ) → k < length ds
    → count_in (set ds k d) q + 2 ^ k * digit (get_or ds k e) q ≡ count_in ds q + 2 ^ k * digit d q
unfolding count_in
count_in-set [] k d e q inside = absurd (omega arith)
count_in-set (x ∷ ds) zero d e q inside = omega arith
count_in-set (x ∷ ds) (suc k) d e q inside =
    let more = count_in-set ds k d e q (omega arith) in
    let new : 2 ^ suc k * digit d q ≡ 2 * 2 ^ k * digit d q = ap (λ n. n * digit d q) (pow_suc k) in
    let old : 2 ^ suc k * digit (get_or ds k e) q ≡ 2 * 2 ^ k * digit (get_or ds k e) q = ap (λ n. n * digit (get_or ds k e) q) (pow_suc k) in
    omega arith

-- the digits from a place on
pub count_in-drop : {W : ℕ} (ds : List (Digits W)) (k : ℕ) (e : Digits W) (q : ℕ) → k < length ds
    → count_in (drop k ds) q ≡ digit (get_or ds k e) q + 2 * count_in (drop (k + 1) ds) q
unfolding count_in
count_in-drop ds k e q inside = rw (drop_more ds k e inside) refl

pub count_in-drop_le : {W : ℕ} (ds : List (Digits W)) (k q : ℕ) → count_in (drop k ds) q ≤ count_in ds q
unfolding count_in
count_in-drop_le ds zero q = omega arith
count_in-drop_le [] (suc k) q = omega arith
count_in-drop_le (x ∷ ds) (suc k) q = let less = count_in-drop_le ds k q in omega arith

-- the digits before a place
pub count_in-take : {W : ℕ} (ds : List (Digits W)) (k : ℕ) (e : Digits W) (q : ℕ) → k < length ds
    → count_in (take (k + 1) ds) q ≡ count_in (take k ds) q + 2 ^ k * digit (get_or ds k e) q
count_in-take ds k e q inside =
    let long : length (take k ds) ≡ k = length-take-le k ds (omega arith) in
    rw (take_more ds k e inside, count_in-push (take k ds) (get_or ds k e) q, long) refl

pub count_in-empty : (W q : ℕ) → count_in {W = W} [] q ≡ 0
unfolding count_in
count_in-empty W q = refl

-- some digits in front
pub count_in-append : {W : ℕ} (ds es : List (Digits W)) (q : ℕ) → count_in (ds ++ es) q ≡ count_in ds q + 2 ^ length ds * count_in es q
unfolding count_in
count_in-append [] es q = omega arith
count_in-append (x ∷ ds) es q =
    let more = count_in-append ds es q in
    let scaled : 2 ^ suc (length ds) * count_in es q ≡ 2 * 2 ^ length ds * count_in es q = ap (λ n. n * count_in es q) (pow_suc (length ds)) in
    omega arith

pub count_in-three : {W : ℕ} (d e f : Digits W) (q : ℕ) → count_in (d ∷ e ∷ f ∷ []) q ≡ digit d q + 2 * digit e q + 4 * digit f q
unfolding count_in
count_in-three d e f q = omega arith

-- one set more
sets_with-push : (sets : List ℕ) (set q : ℕ) → sets_with (sets ++ set ∷ []) q ≡ sets_with sets q + bit_at set q
unfolding sets_with
sets_with-push [] set q = omega arith
sets_with-push (other ∷ sets) set q = let more = sets_with-push sets set q in omega arith

pub sets_with-next : (sets : List ℕ) (k other q : ℕ) → k < length sets
    → sets_with (take (k + 1) sets) q ≡ sets_with (take k sets) q + bit_at (get_or sets k other) q
sets_with-next sets k other q inside = rw (take_more sets k other inside) (sets_with-push (take k sets) (get_or sets k other) q)

pub sets_with-waits : (sets : List ℕ) (k one q : ℕ) → k < length sets
    → sets_with (take (k + 1) (set sets k one)) q ≡ sets_with (take k sets) q + bit_at one q
sets_with-waits sets k one q inside = rw (take_more_set sets k one inside) (sets_with-push (take k sets) one q)

pub sets_with-le : (sets : List ℕ) (q : ℕ) → sets_with sets q ≤ length sets
unfolding sets_with
sets_with-le [] q = omega arith
sets_with-le (one ∷ sets) q = omega (arith, sets_with-le sets q, bit_at-lt one q)

pub sets_with-take_le : (sets : List ℕ) (k q : ℕ) → sets_with (take k sets) q ≤ k
unfolding sets_with
sets_with-take_le sets zero q = omega arith
sets_with-take_le [] (suc k) q = omega arith
sets_with-take_le (one ∷ sets) (suc k) q = omega (arith, sets_with-take_le sets k q, bit_at-lt one q)

pub sets_with-none : (sets : List ℕ) (q : ℕ) → sets_with (take 0 sets) q ≡ 0
unfolding sets_with
sets_with-none sets q = refl

pub sets_with-all : (sets : List ℕ) (k q : ℕ) → length sets ≤ k → sets_with (take k sets) q ≡ sets_with sets q
sets_with-all sets k q long = rw (take_all k sets long) refl

-- seven sets, one by one
pub sets_with-seven : (sets : List ℕ) (a b c d e f g q : ℕ) → length sets ≡ 7
    → sets_with sets q ≡ bit_at (get_or sets 0 a) q + bit_at (get_or sets 1 b) q + bit_at (get_or sets 2 c) q + bit_at (get_or sets 3 d) q
    + bit_at (get_or sets 4 e) q + bit_at (get_or sets 5 f) q + bit_at (get_or sets 6 g) q
sets_with-seven sets a b c d e f g q long =
    omega (
      arith,
      sets_with-none sets q,
      sets_with-all sets 7 q (omega arith),
      sets_with-next sets 0 a q (omega arith),
      sets_with-next sets 1 b q (omega arith),
      sets_with-next sets 2 c q (omega arith),
      sets_with-next sets 3 d q (omega arith),
      sets_with-next sets 4 e q (omega arith),
      sets_with-next sets 5 f q (omega arith),
      sets_with-next sets 6 g q (omega arith),
    )

-- the count of a member
pub get_or-counts_in : {W : ℕ} (sets : List ℕ) (filled : ℕ) (low : Low W) (ds : List (Digits W)) (q : ℕ) → q < 64 * W
    → get_or (counts_in W sets filled low ds) q 0 ≡ count_of sets filled low ds q
unfolding counts_in
get_or-counts_in {W} sets filled low ds q inside = get_or-map-range_with_len (count_of sets filled low ds) 0 (64 * W) q q 0 inside (omega arith)

pub counts_in_past : {W : ℕ} (sets : List ℕ) (filled : ℕ) (low : Low W) (ds : List (Digits W)) (q : ℕ) → 64 * W ≤ q
    → get_or (counts_in W sets filled low ds) q 0 ≡ 0
unfolding counts_in
counts_in_past {W} sets filled low ds q past =
    get_or_past (map (count_of sets filled low ds) (range_with_len 0 (64 * W))) q 0 (omega (arith, length-map-range_with_len (count_of sets filled low ds) 0 (64 * W)))

-- with nothing added up and no set waiting all are 0
pub counts_in-none : (W : ℕ) (sets : List ℕ) (low : Low W) → ((q : ℕ) → low_count low q ≡ 0) → counts_in W sets 0 low [] ≡ replicate (64 * W) 0
unfolding counts_in
counts_in-none W sets low none = ext_get_or 0 (counts_in W sets 0 low []) (replicate (64 * W) 0)
    (length-map-range_with_len (count_of sets 0 low []) 0 (64 * W) ∙ sym (length-replicate (64 * W) 0))
    (λ k inside.
    let short : k < 64 * W = omega (arith, length-map-range_with_len (count_of sets 0 low []) 0 (64 * W)) in
    let zero : count_of sets 0 low [] k ≡ 0 = omega (arith, sets_with-none sets k, none k, count_in-empty W k) in
    get_or-counts_in sets 0 low [] k short ∙ (zero ∙ sym (get_or-replicate (64 * W) k 0 0 short)))

-- a list of digits of which the first three come by themselves
pub three-count : {W : ℕ} (ds es : List (Digits W)) (q : ℕ) → length ds ≡ 3 → count_in (ds ++ es) q ≡ count_in ds q + 8 * count_in es q
three-count ds es q three = count_in-append ds es q ∙ (rw three refl)

-- ---- one set more

pub has_bit : (set q : ℕ) → Has set q → bit_at set q ≡ 1
unfolding Has
has_bit set q has = has

pub lacks_bit : (set q : ℕ) → (Has set q → ⊥) → bit_at set q ≡ 0
unfolding Has
lacks_bit set q lacks = let small = bit_at-lt set q in elim (cases_eq (bit_at set q) 1) [ inl one ↦ absurd (lacks one) | inr other ↦ omega arith ]

-- each member's count is one more where the set has it
abbrev pub HasMore : {W : ℕ} → List ℕ → ℕ → Low W → List (Digits W) → List ℕ → ℕ → Low W → List (Digits W) → ℕ → Type 0
HasMore {W} sets filled low ds later waits high es one = (q : ℕ) → q < 64 * W → count_of later waits high es q ≡ count_of sets filled low ds q + bit_at one q

pub more-members : {W : ℕ} (sets : List ℕ) (filled : ℕ) (low : Low W) (ds : List (Digits W)) (later : List ℕ) (waits : ℕ) (high : Low W) (es : List (Digits W)) (one : ℕ) (old : List ℕ)
    → HasMore sets filled low ds later waits high es one → counts_in W sets filled low ds ≡ old → (q : ℕ) → q < 64 * W → Has one q
    → get_or (counts_in W later waits high es) q 0 ≡ get_or old q 0 + 1
more-members {W} sets filled low ds later waits high es one old more same q inside has =
    let after = get_or-counts_in later waits high es q inside in
    let before = get_or-counts_in sets filled low ds q inside in
    let was : get_or (counts_in W sets filled low ds) q 0 ≡ get_or old q 0 = ap (λ (cs : List ℕ). get_or cs q 0) same in
    omega (arith, after, before, was, more q inside, has_bit one q has)

pub more-others : {W : ℕ} (sets : List ℕ) (filled : ℕ) (low : Low W) (ds : List (Digits W)) (later : List ℕ) (waits : ℕ) (high : Low W) (es : List (Digits W)) (one : ℕ) (old : List ℕ)
    → HasMore sets filled low ds later waits high es one → counts_in W sets filled low ds ≡ old → (q : ℕ) → (Has one q → ⊥)
    → get_or (counts_in W later waits high es) q 0 ≡ get_or old q 0
more-others {W} sets filled low ds later waits high es one old more same q lacks =
    let was : get_or (counts_in W sets filled low ds) q 0 ≡ get_or old q 0 = ap (λ (cs : List ℕ). get_or cs q 0) same in
    elim (cases_lt q (64 * W)) [
      | inl inside ↦
          let after = get_or-counts_in later waits high es q inside in
          let before = get_or-counts_in sets filled low ds q inside in
          omega (arith, after, before, was, more q inside, lacks_bit one q lacks)
      | inr past ↦
          let after = counts_in_past later waits high es q past in
          let before = counts_in_past sets filled low ds q past in
          omega (arith, after, before, was)
    ]

-- it waits
pub wait-more : {W : ℕ} (sets : List ℕ) (filled : ℕ) (low : Low W) (ds : List (Digits W)) (one : ℕ) → filled < length sets
    → HasMore sets filled low ds (set sets filled one) (filled + 1) low ds one
wait-more sets filled low ds one room q inside = omega (arith, sets_with-waits sets filled one q room)

-- it is added up with those that wait
pub added-more : {W : ℕ} (sets : List ℕ) (filled : ℕ) (low : Low W) (ds : List (Digits W)) (high : Low W) (es : List (Digits W)) (one : ℕ) → length sets ≤ filled
    → ((q : ℕ) → q < 64 * W → added_up high es q ≡ added_up low ds q + sets_with sets q + bit_at one q)
    → HasMore sets filled low ds sets 0 high es one
added-more sets filled low ds high es one full sum_is q inside =
    omega (arith, sum_is q inside, sets_with-all sets filled q full, sets_with-none sets q)

pub AreCounts-more : {W filled added members : ℕ} {low high : Low W} {ds es : List (Digits W)} (sets : List ℕ) (one : ℕ) → AreCounts W filled low ds added members → length sets ≡ 7 → added + 16 < 2 ^ 64
    → ((q : ℕ) → q < 64 * W → added_up high es q ≡ added_up low ds q + sets_with sets q + bit_at one q)
    → AreCounts W 0 high es (added + 8) members
AreCounts-more sets one was seven fits sum_is = record {
  narrow = was.narrow;
  waits = omega arith;
  fits = omega arith;
  few = λ q inside. omega (arith, was.few q inside, sum_is q inside, sets_with-le sets q, bit_at-lt one q);
  known = was.known;
}

-- A member's count against a threshold, as far as the digits before a power of two go: what the digits leave of
-- the count and of the threshold, and whether the first reaches the second.
pub record IsCompared (power rest threshold reaching carry count q : ℕ) : Type 0 where
  pub low : ℕ
  pub low_small : low < power
  pub count_is : low + power * carry ≡ count
  pub least : ℕ
  pub least_small : least < power
  pub threshold_is : least + power * rest ≡ threshold
  pub reaches : Has reaching q ↔ (least ≤ low)

half_odd : (n : ℕ) → n % 2 ≡ 1 → n ≡ 2 * (n / 2) + 1
half_odd n odd = omega arith

half_even : (n : ℕ) → n % 2 ≡ 0 → n ≡ 2 * (n / 2)
half_even n even = omega arith

-- what the digits before the first say: nothing, and each member does
pub IsCompared-none : (threshold reaching q : ℕ) → Has reaching q → IsCompared 1 threshold threshold reaching 0 0 q
IsCompared-none threshold reaching q has = record {
  low = 0;
  low_small = omega arith;
  count_is = omega arith;
  least = 0;
  least_small = omega arith;
  threshold_is = omega arith;
  reaches = ((λ _. omega arith), (λ _. has));
}

-- with a bit in front of both, where the digit and what was carried leave a bit and carry another
pub IsCompared-set : {power rest threshold before after carry carried count q : ℕ} (row digit_is : ℕ) → IsCompared power rest threshold before carry count q
    → row + 2 * carried ≡ carry + digit_is → row < 2 → rest % 2 ≡ 1 → Has after q ↔ (Has before q × (row ≡ 1))
    → IsCompared (2 * power) (rest / 2) threshold after carried (count + power * digit_is) q
IsCompared-set {power} {rest} {threshold} {before} {after} {carry} {carried} {count} {q} row digit_is was sum_is row_small odd now =
    let scaled : power * row + 2 * (power * carried) ≡ power * carry + power * digit_is = omega (arith, ap (λ n. power * n) sum_is) in
    let halves : power * rest ≡ 2 * (power * (rest / 2)) + power = omega (arith, ap (λ (n : ℕ). power * n) (half_odd rest odd)) in
    record {
      low = was.low + power * row;
      low_small = elim (cases_eq row 0) [
        | inl none ↦ rw none (omega (arith, was.low_small))
        | inr some ↦ let one : row ≡ 1 = omega arith in rw one (omega (arith, was.low_small))
      ];
      count_is = omega (arith, was.count_is);
      least = was.least + power;
      least_small = omega (arith, was.least_small);
      threshold_is = omega (arith, was.threshold_is);
      reaches = elim (cases_eq row 1) [
        | inl one ↦ (
          (λ has. let (had, _) = now.0 has in let up = was.reaches.0 had in rw one (omega arith)),
          (λ up. let up_then : was.least + power ≤ was.low + power * 1 = rw one at up in now.1 (was.reaches.1 (omega arith), one)),
        )
        | inr other ↦
            let none : row ≡ 0 = omega arith in (
              (λ has. let (_, one) = now.0 has in absurd (other one)),
              (λ up. let up_then : was.least + power ≤ was.low + power * 0 = rw none at up in absurd (omega (arith, was.low_small))),
            )
      ];
    }

pub IsCompared-clear : {power rest threshold before after carry carried count q : ℕ} (row digit_is members : ℕ) → IsCompared power rest threshold before carry count q
    → row + 2 * carried ≡ carry + digit_is → row < 2 → rest % 2 ≡ 0 → Has members q → Has after q ↔ (Has before q ⊎ (Has members q × (row ≡ 1)))
    → IsCompared (2 * power) (rest / 2) threshold after carried (count + power * digit_is) q
IsCompared-clear {power} {rest} {threshold} {before} {after} {carry} {carried} {count} {q} row digit_is members was sum_is row_small even member now =
    let scaled : power * row + 2 * (power * carried) ≡ power * carry + power * digit_is = omega (arith, ap (λ n. power * n) sum_is) in
    let halves : power * rest ≡ 2 * (power * (rest / 2)) = omega (arith, ap (λ (n : ℕ). power * n) (half_even rest even)) in
    record {
      low = was.low + power * row;
      low_small = elim (cases_eq row 0) [
        | inl none ↦ rw none (omega (arith, was.low_small))
        | inr some ↦ let one : row ≡ 1 = omega arith in rw one (omega (arith, was.low_small))
      ];
      count_is = omega (arith, was.count_is);
      least = was.least;
      least_small = omega (arith, was.least_small);
      threshold_is = omega (arith, was.threshold_is);
      reaches = elim (cases_eq row 1) [
        | inl one ↦ (
          (λ has. rw one (omega (arith, was.least_small))),
          (λ up. now.1 (inr (member, one))),
        )
        | inr other ↦
            let none : row ≡ 0 = omega arith in (
              (λ has. elim (now.0 has) [
                | inl had ↦ let up = was.reaches.0 had in rw none (omega arith)
                | inr (_, one) ↦ absurd (other one)
              ]),
              (λ up. let up_then : was.least ≤ was.low + power * 0 = rw none at up in now.1 (inl (was.reaches.1 (omega arith)))),
            )
      ];
    }

pub AreCounts-none : (W members : ℕ) (low : Low W) → W ≤ 17 → ((q : ℕ) → low_count low q ≡ 0) → ((q : ℕ) → Has members q ↔ (q < 64 * W)) → AreCounts W 0 low [] 0 members
AreCounts-none W members low narrow none known = record {
  narrow = narrow;
  waits = omega arith;
  fits = omega arith;
  few = λ q inside. omega (arith, none q, count_in-empty W q);
  known = known;
}

-- a digit takes in what was carried to it, and carries on
pub carried_on : {W : ℕ} (ds : List (Digits W)) (k : ℕ) (new e : Digits W) (q carry carried sum : ℕ) → k < length ds
    → count_in ds q + 2 ^ k * carry ≡ sum → digit new q + 2 * carried ≡ digit (get_or ds k e) q + carry → count_in (set ds k new) q + 2 ^ (k + 1) * carried ≡ sum
carried_on {W} ds k new e q carry carried sum inside so_far more =
    let placed = count_in-set ds k new e q inside in
    let scaled : 2 ^ k * digit new q + 2 * (2 ^ k * carried) ≡ 2 ^ k * digit (get_or ds k e) q + 2 ^ k * carry = omega (arith, ap (λ n. 2 ^ k * n) more) in
    let power : 2 ^ (k + 1) * carried ≡ 2 * 2 ^ k * carried = ap (λ n. n * carried) (pow_more k) in
    omega arith

-- what the highest digit carries is a digit of its own
pub count_in-carried : {W : ℕ} (old mid after : List (Digits W)) (bits : List ℕ) (q row : ℕ) → length mid ≡ length old
    → count_in mid q + 2 ^ length old * bit_in bits q ≡ count_in old q + row → after ≡ mid ++ record { bits = bits; waiting = None } ∷ []
    → count_in after q ≡ count_in old q + row
count_in-carried {W} old mid after bits q row long carried is =
    let top : Digits W = record { bits = bits; waiting = None } in
    let pushed = count_in-push mid top q in
    let power : 2 ^ length mid * digit top q ≡ 2 ^ length old * (bit_in bits q + 0) = rw long refl in
    rw is (omega (arith, pushed, power, carried))

-- the members, compared as far as the first so many digits go
pub record AreCompared {W : ℕ} (ds : List (Digits W)) (k members threshold rest : ℕ) (carry : List ℕ) (reaching : ℕ) : Type 0 where
  pub within : (q : ℕ) → Has reaching q → Has members q
  pub compared : (q : ℕ) → Has members q → IsCompared (2 ^ k) rest threshold reaching (bit_in carry q) (count_in (take k ds) q) q

pub bit_in-none : (width q : ℕ) → bit_in (replicate width 0) q ≡ 0
bit_in-none width q = elim (cases_lt (q / 64) width) [
  | inl inside ↦ rw (get_or-replicate {A = ℕ} width (q / 64) 0 0 inside) (bit_at-zero (q % 64))
  | inr outside ↦ rw (get_or_past {X = ℕ} (replicate width 0) (q / 64) 0 (omega (arith, length-replicate {A = ℕ} width 0))) (bit_at-zero (q % 64))
]

pub AreCompared-none : {W : ℕ} (ds : List (Digits W)) (members threshold : ℕ) → AreCompared ds 0 members threshold threshold (replicate W 0) members
AreCompared-none {W} ds members threshold = record {
  within = λ q has. has;
  compared = λ q has. rw (bit_in-none W q, count_in-empty W q) (IsCompared-none threshold members q has);
}

even_rest : (n : ℕ) → n % 2 ≢ 1 → n % 2 ≡ 0
even_rest n other = omega arith

-- what is kept of those that reached it, where the bit in front is 1, and what is added, where it is 0
abbrev IsKept : ℕ → ℕ → List ℕ → ℕ → Type 0
IsKept before after row q = Has after q ↔ (Has before q × HasBit row q)

abbrev IsJoined : ℕ → ℕ → ℕ → List ℕ → ℕ → Type 0
IsJoined members before after row q = Has after q ↔ (Has before q ⊎ (Has members q × HasBit row q))

kept_at : (before after : ℕ) (row : List ℕ) (bit : Bool) (q : ℕ) → OnTrue bit ((r : ℕ) → IsKept before after row r) → OnTrue bit (IsKept before after row q)
kept_at before after row true q all = all q
kept_at before after row false q all = all

joined_at : (members before after : ℕ) (row : List ℕ) (bit : Bool) (q : ℕ) → OnFalse bit ((r : ℕ) → IsJoined members before after row r) → OnFalse bit (IsJoined members before after row q)
joined_at members before after row true q all = all
joined_at members before after row false q all = all q

-- what reaches the threshold is a member
within_after : (members before after : ℕ) (row : List ℕ) (q : ℕ) (bit : Bool) → (Has before q → Has members q)
    → OnTrue bit (IsKept before after row q) → OnFalse bit (IsJoined members before after row q) → Has after q → Has members q
within_after members before after row q true was set clear has = was (set.0 has).0
within_after members before after row q false was set clear has = elim (clear.0 has) [ inl had ↦ was had | inr (member, one) ↦ member ]

last_compared : {power rest threshold reaching count total q : ℕ} → IsCompared power rest threshold reaching 0 count q → rest ≡ 0 → count ≡ total → IsCompared power 0 threshold reaching 0 total q
last_compared {power} {rest} {threshold} {reaching} {count} {total} {q} was none same =
    rw (← same) (subst (λ (r : ℕ). IsCompared power r threshold reaching 0 count q) none was)

reaches_at_last : {power threshold reaching count q : ℕ} → IsCompared power 0 threshold reaching 0 count q → Has reaching q ↔ (threshold ≤ count)
reaches_at_last was = (
  (λ has. let up = was.reaches.0 has in omega (arith, was.count_is, was.threshold_is)),
  (λ up. was.reaches.1 (omega (arith, was.count_is, was.threshold_is))),
)

too_great : {power rest threshold reaching carry count q : ℕ} → IsCompared power rest threshold reaching carry count q → threshold ≤ count → 2 ≤ rest → carry < 2 → ⊥
too_great {power} {rest} {threshold} {reaching} {carry} {count} {q} at up large small =
    let twice : power * 2 ≤ power * rest = mul-le-mul_left power large in
    let once : power * carry ≤ power * 1 = mul-le-mul_left power (omega arith) in
    omega (arith, at.low_small, at.count_is, at.threshold_is)

-- which numbers are at least the threshold's, with a bit more in front, where it is this bit
compared_with : {power rest threshold before after carry carried count q : ℕ} (row digit_is members : ℕ) (bit : Bool) → (rest % 2 == 1) ≡ bit
    → IsCompared power rest threshold before carry count q → row + 2 * carried ≡ carry + digit_is → row < 2 → Has members q
    → OnTrue bit (Has after q ↔ (Has before q × (row ≡ 1))) → OnFalse bit (Has after q ↔ (Has before q ⊎ (Has members q × (row ≡ 1))))
    → IsCompared (2 * power) (rest / 2) threshold after carried (count + power * digit_is) q
compared_with row digit_is members true test was sum_is row_small member set clear =
    IsCompared-set row digit_is was sum_is row_small (eqb-true _ _ test) set
compared_with {rest = rest} row digit_is members false test was sum_is row_small member set clear =
    let other = eqb-false _ _ test in
    IsCompared-clear row digit_is members was sum_is row_small (even_rest rest other) member clear

pub AreCompared-more : {W : ℕ} (ds : List (Digits W)) (k : ℕ) (d : Digits W) (members threshold rest : ℕ) (carry row carried : List ℕ) (before after : ℕ) (bit : Bool) → (rest % 2 == 1) ≡ bit
    → AreCompared ds k members threshold rest carry before → k < length ds → d ≡ get_or ds k d → ((q : ℕ) → bit_in row q + 2 * bit_in carried q ≡ bit_in carry q + digit d q)
    → OnTrue bit ((q : ℕ) → IsKept before after row q) → OnFalse bit ((q : ℕ) → IsJoined members before after row q)
    → AreCompared ds (k + 1) members threshold (rest / 2) carried after
AreCompared-more {W} ds k d members threshold rest carry row carried before after bit test was inside read sum_is set clear =
    let taken : (q : ℕ) → count_in (take (k + 1) ds) q ≡ count_in (take k ds) q + 2 ^ k * digit d q = λ q.
    count_in-take ds k d q inside ∙ ap (λ (x : Digits W). count_in (take k ds) q + 2 ^ k * digit x q) (sym read) in
    record {
      within = λ q has. within_after members before after row q bit (was.within q) (kept_at before after row bit q set) (joined_at members before after row bit q clear) has;
      compared = λ q member. rw (taken q, pow_more k)
          (compared_with (bit_in row q) (digit d q) members bit test (was.compared q member) (sum_is q) (bit_at-lt (get_or row (q / 64) 0) (q % 64)) member
          (kept_at before after row bit q set) (joined_at members before after row bit q clear));
    }

-- the members whose count reaches the threshold, where no bit of it is left
pub reached : {W : ℕ} (ds : List (Digits W)) (k members threshold rest : ℕ) (carry : List ℕ) (before after : ℕ) (bit : Bool) → (rest % 2 == 1) ≡ bit
    → AreCompared ds k members threshold rest carry before → length ds ≤ k
    → OnTrue bit ((q : ℕ) → IsKept before after carry q) → OnFalse bit ((q : ℕ) → IsJoined members before after carry q)
    → rest < 2 → (q : ℕ) → Has after q ↔ (Has members q × (threshold ≤ count_in ds q))
reached {W} ds k members threshold rest carry before after bit test was over set clear small q =
    let none : rest / 2 ≡ 0 = omega arith in
    let last : (member : Has members q) → Has after q ↔ (threshold ≤ count_in ds q) = λ member.
    let now = compared_with {carried = 0} (bit_in carry q) 0 members bit test (was.compared q member) (omega arith) (bit_at-lt (get_or carry (q / 64) 0) (q % 64)) member (kept_at before after carry bit q set) (joined_at members before after carry bit q clear) in
    let whole : IsCompared (2 * 2 ^ k) 0 threshold after 0 (count_in ds q) q = last_compared now none (rw (take_all k ds over) (omega arith)) in
    reaches_at_last whole in (
      (λ has. let member = within_after members before after carry q bit (was.within q) (kept_at before after carry bit q set) (joined_at members before after carry bit q clear) has in (member, (last member).0 has)),
      (λ (member, up). (last member).1 up),
    )

-- and where one is, none does
pub not_reached : {W : ℕ} (ds : List (Digits W)) (k members threshold rest : ℕ) (carry : List ℕ) (before : ℕ)
    → AreCompared ds k members threshold rest carry before → length ds ≤ k → 2 ≤ rest → (q : ℕ) → Has 0 q ↔ (Has members q × (threshold ≤ count_in ds q))
not_reached ds k members threshold rest carry before was over large q = (
  (λ has. absurd (Has-none q has)),
  (λ (member, up).
      let at = was.compared q member in
      let up_then : threshold ≤ count_in (take k ds) q = rw (take_all k ds over) up in
      absurd (too_great at up_then large (bit_at-lt (get_or carry (q / 64) 0) (q % 64)))),
)

-- the count from a digit on is at most the whole one, and so is twice that from the next one on
pub counted_on : {W : ℕ} (ds : List (Digits W)) (k : ℕ) (e : Digits W) (q : ℕ) → 0 < k → k ≤ length ds
    → count_in (drop (k - 1) ds) q ≡ digit (get_or ds (k - 1) e) q + 2 * count_in (drop k ds) q
counted_on ds k e q some within =
    let back : k - 1 + 1 ≡ k = omega arith in
    let next = count_in-drop ds (k - 1) e q (omega arith) in
    rw back at next

-- of two lists of digits together, one of the first, and one behind the first three
pub get_or-front : {W : ℕ} (ds es : List (Digits W)) (k : ℕ) (d : Digits W) → k < length ds → d ≡ get_or ds k d
    → get_or ds k d ≡ get_or (ds ++ es) k (get_or ds k d)
get_or-front {W} ds es k d inside read =
    subst (λ (e : Digits W). e ≡ get_or (ds ++ es) k e) read (read ∙ sym (get_or_append_left ds es d k inside))

pub get_or-behind : {W : ℕ} (ds es : List (Digits W)) (k : ℕ) (d : Digits W) → length ds ≡ 3 → get_or (ds ++ es) (3 + k) d ≡ get_or es k d
get_or-behind ds es k d three =
    let place : 3 + k ≡ length ds + k = omega arith in
    ap (λ (n : ℕ). get_or (ds ++ es) n d) place ∙ get_or-append-add ds es k d
