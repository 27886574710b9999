-- The ranks whose weight is enough, sorted and laid out.
use Rattle.std.proofs.Common.{◌≡◌, ◌≢◌, ℕ, zero, suc, ◌+◌, ◌≤◌, ◌<◌, inl, inr, Bool, leb, Some, List, [], ◌∷◌, ◌++◌, length, get_or, set, map, take, drop, append_assoc, refl, sym, ap, ◌∙◌, arith}
use Rattle.std.specs.List.{AllPairs, Contains, filter, slice_get}
use Rattle.std.specs.List.Sorted.{IsPermutation, IsNonDecreasingBy}
use Rattle.std.proofs.lemmas.Bool.{cases_lt, leb-true, le-leb}
use Rattle.std.proofs.lemmas.Bool.Decides.{Decides-eqb}
use Rattle.std.proofs.lemmas.List.{get_or-map, get_or_at, set_at, take_more, drop_more, length-map, length-take-le}
use Rattle.std.proofs.lemmas.List.Kept.{AllPairs-filter}
use Rattle.std.proofs.lemmas.List.Sorted.{IsPermutation-map, IsPermutation-sym, Contains-permutation}
use Rattle.std.proofs.lemmas.Option.{same_Some, slice_get_within, get_or_from_slice_get}
use Rattle.mine_model.proofs.ApartLemmas.{apart_by_permutation}
use Rattle.mine_model.proofs.ElementLemmas.{get-some, slice_get-mapped_by}
use Rattle.mine_model.proofs.ListLemmas.{Contains-by, Contains-from, Contains-filter, filter-Contains, Contains-cases, Contains-first, Contains-other, Contains-none}
use Rattle.stand_sums.specs.declared.sum.Sum.{Sum}
use Rattle.stand_sums.specs.declared.next_rank.NextRank.{NextRank}
use Rattle.stand_sums.specs.Sums.{Tally, room_for, AreLaidOut, AreNext}
use Rattle.stand_sums.specs.Kept.{tally_of, nothing, moved, AreSums}

-- the rank with its sum, and with so many places from 0 on as its stands need
abbrev pub told_of : ℕ → ℕ → Sum → NextRank
told_of longer rank sum = record { rank = rank; weight = sum.weight; support = sum.support; longer = sum.longer; first = 0; last = room_for longer (tally_of sum) }

abbrev pub sum_in : List Sum → ℕ → Sum
sum_in sums rank = get_or sums rank nothing

abbrev pub told_in : ℕ → List Sum → ℕ → NextRank
told_in longer sums rank = told_of longer rank (sum_in sums rank)

abbrev pub reaches : ℕ → List Sum → ℕ → Bool
reaches least sums rank = leb least (sum_in sums rank).weight

-- of these ranks those that reach the least
abbrev pub found_of : ℕ → ℕ → List Sum → List ℕ → List NextRank
found_of least longer sums touched = map (told_in longer sums) (filter (reaches least sums) touched)

-- ---- laid out

abbrev pub end_from : ℕ → List NextRank → ℕ
end_from from [] = from
end_from from (next ∷ others) = end_from (from + next.last) others

pub moved-laid_out : (from : ℕ) (nexts : List NextRank) → AreLaidOut from (moved from nexts) (end_from from nexts)
moved-laid_out from [] = refl
moved-laid_out from (next ∷ others) = (refl, omega arith, moved-laid_out (from + next.last) others)

moved-rank : (from : ℕ) (nexts : List NextRank) (i : ℕ) (d : NextRank) → (get_or (moved from nexts) i d).rank ≡ (get_or nexts i d).rank
moved-rank from [] i d = refl
moved-rank from (next ∷ others) zero d = refl
moved-rank from (next ∷ others) (suc i) d = moved-rank (from + next.last) others i d

pub moved-length : (from : ℕ) (nexts : List NextRank) → length (moved from nexts) ≡ length nexts
moved-length from [] = refl
moved-length from (next ∷ others) = ap suc (moved-length (from + next.last) others)

-- the same but for its places
record IsMoved (next now : NextRank) : Type 0 where
  rank : now.rank ≡ next.rank
  weight : now.weight ≡ next.weight
  support : now.support ≡ next.support
  longer : now.longer ≡ next.longer
  places : now.last ≡ now.first + next.last

moved-from : (from : ℕ) (nexts : List NextRank) (now : NextRank) → Contains (moved from nexts) now → (next : NextRank) × Contains nexts next × IsMoved next now
moved-from from [] now held = absurd (Contains-none now held)
moved-from from (next ∷ others) now held = elim (Contains-cases (record next { first = from; last = from + next.last }) (moved (from + next.last) others) now held) [
  | inl here ↦ (
    next,
    Contains-first next others,
    record {
      rank = ap (λ (n : NextRank). n.rank) here;
      weight = ap (λ (n : NextRank). n.weight) here;
      support = ap (λ (n : NextRank). n.support) here;
      longer = ap (λ (n : NextRank). n.longer) here;
      places = ap (λ (n : NextRank). n.last) here ∙ ap (λ (f : ℕ). f + next.last) (sym (ap (λ (n : NextRank). n.first) here));
    },
  )
  | inr there ↦ let (one, in', is) = moved-from (from + next.last) others now there in (one, Contains-other next others one in', is)
]

moved-to : (from : ℕ) (nexts : List NextRank) (next : NextRank) → Contains nexts next → (now : NextRank) × Contains (moved from nexts) now × (now.rank ≡ next.rank)
moved-to from [] next held = absurd (Contains-none next held)
moved-to from (one ∷ others) next held =
    let first : NextRank = record one { first = from; last = from + one.last } in
    elim (Contains-cases one others next held) [
      | inl here ↦ (first, Contains-first first (moved (from + one.last) others), sym (ap (λ (n : NextRank). n.rank) here))
      | inr there ↦ let (now, in', is) = moved-to (from + one.last) others next there in (now, Contains-other first (moved (from + one.last) others) now in', is)
    ]

moved-last : (from : ℕ) (nexts : List NextRank) (next : NextRank)
    → moved from (nexts ++ next ∷ []) ≡ moved from nexts ++ record next { first = end_from from nexts; last = end_from from nexts + next.last } ∷ []
moved-last from [] next = refl
moved-last from (one ∷ nexts) next = ap (λ (l : List NextRank). record one { first = from; last = from + one.last } ∷ l) (moved-last (from + one.last) nexts next)

end-last : (from : ℕ) (nexts : List NextRank) (next : NextRank) → end_from from (nexts ++ next ∷ []) ≡ end_from from nexts + next.last
end-last from [] next = refl
end-last from (one ∷ nexts) next = end-last (from + one.last) nexts next

module _ (nexts : List NextRank) (k : ℕ) (d : NextRank) (inside : k < length nexts) where
  moved-many : length (moved 0 (take k nexts)) ≡ k
  moved-many = moved-length 0 (take k nexts) ∙ length-take-le k nexts (omega arith)

  pub left-next : get_or (moved 0 (take k nexts) ++ drop k nexts) k d ≡ get_or nexts k d
  left-next = ap (λ (l : List NextRank). get_or (moved 0 (take k nexts) ++ l) k d) (drop_more nexts k d inside)
      ∙ get_or_at (moved 0 (take k nexts)) (get_or nexts k d) (drop (k + 1) nexts) d k moved-many

  pub laid-more : (now : NextRank) → now ≡ record (get_or nexts k d) { first = end_from 0 (take k nexts); last = end_from 0 (take k nexts) + (get_or nexts k d).last }
      → set (moved 0 (take k nexts) ++ drop k nexts) k now ≡ moved 0 (take (k + 1) nexts) ++ drop (k + 1) nexts
  laid-more now is =
      let next : NextRank = get_or nexts k d in
      let put : NextRank = record next { first = end_from 0 (take k nexts); last = end_from 0 (take k nexts) + next.last } in
      ap (λ (l : List NextRank). set (moved 0 (take k nexts) ++ l) k now) (drop_more nexts k d inside)
      ∙ set_at (moved 0 (take k nexts)) next (drop (k + 1) nexts) now k moved-many
      ∙ ap (λ (n : NextRank). moved 0 (take k nexts) ++ n ∷ drop (k + 1) nexts) is
      ∙ sym (append_assoc (moved 0 (take k nexts)) (put ∷ []) (drop (k + 1) nexts))
      ∙ ap (λ (l : List NextRank). l ++ drop (k + 1) nexts) (sym (ap (moved 0) (take_more nexts k d inside) ∙ moved-last 0 (take k nexts) next))

  pub end-more : end_from 0 (take k nexts) + (get_or nexts k d).last ≡ end_from 0 (take (k + 1) nexts)
  end-more = sym (ap (end_from 0) (take_more nexts k d inside) ∙ end-last 0 (take k nexts) (get_or nexts k d))

-- ---- sorted

module _ (least longer number : ℕ) (sums : List Sum) (touched : List ℕ) (are : AreSums number sums touched) where
  found-apart : AllPairs (λ (x y : ℕ). x ≢ y) (map (λ (n : NextRank). n.rank) (found_of least longer sums touched))
  found-apart i j d less inside same =
      let kept : List ℕ = filter (reaches least sums) touched in
      let long : length (map (λ (n : NextRank). n.rank) (map (told_in longer sums) kept)) ≡ length kept =
      length-map (map (told_in longer sums) kept) (λ (n : NextRank). n.rank) ∙ length-map kept (told_in longer sums) in
      let short : length (map (told_in longer sums) kept) ≡ length kept = length-map kept (told_in longer sums) in
      let at_i : get_or (map (λ (n : NextRank). n.rank) (map (told_in longer sums) kept)) i d ≡ get_or kept i 0 =
      get_or-map (λ (n : NextRank). n.rank) (map (told_in longer sums) kept) i (told_in longer sums 0) d (omega arith)
      ∙ ap (λ (n : NextRank). n.rank) (get_or-map (told_in longer sums) kept i 0 (told_in longer sums 0) (omega arith)) in
      let at_j : get_or (map (λ (n : NextRank). n.rank) (map (told_in longer sums) kept)) j d ≡ get_or kept j 0 =
      get_or-map (λ (n : NextRank). n.rank) (map (told_in longer sums) kept) j (told_in longer sums 0) d (omega arith)
      ∙ ap (λ (n : NextRank). n.rank) (get_or-map (told_in longer sums) kept j 0 (told_in longer sums 0) (omega arith)) in
      AllPairs-filter (λ (x y : ℕ). x ≢ y) (reaches least sums) touched are.once i j 0 less (omega arith) (sym at_i ∙ same ∙ at_j)

  sum-at : (rank : ℕ) → Contains touched rank → slice_get sums rank ≡ Some (sum_in sums rank)
  sum-at rank held =
      let (sum, at, some) = are.known rank held in
      at ∙ ap Some (sym (get_or_from_slice_get sums rank sum nothing at))

  module _ (found : List NextRank) (sorts : IsPermutation (found_of least longer sums touched) found) (sorted : IsNonDecreasingBy (λ (n : NextRank). n.rank) found) where
    found-rising : AllPairs (λ (low high : NextRank). low.rank < high.rank) found
    found-rising i j d less inside =
        let low : (get_or found i d).rank ≤ (get_or found j d).rank = sorted i j d (omega arith) inside in
        let apart = apart_by_permutation Decides-eqb (map (λ (n : NextRank). n.rank) (found_of least longer sums touched)) (map (λ (n : NextRank). n.rank) found)
        (IsPermutation-map (λ (n : NextRank). n.rank) (found_of least longer sums touched) found sorts) found-apart in
        let long : length (map (λ (n : NextRank). n.rank) found) ≡ length found = length-map found (λ (n : NextRank). n.rank) in
        let at_i = get_or-map (λ (n : NextRank). n.rank) found i d d.rank (omega arith) in
        let at_j = get_or-map (λ (n : NextRank). n.rank) found j d d.rank inside in
        let other : (get_or found i d).rank ≢ (get_or found j d).rank = λ same. apart i j d.rank less (omega arith) (at_i ∙ same ∙ sym at_j) in
        elim (cases_lt (get_or found i d).rank (get_or found j d).rank) [
          | inl below ↦ below
          | inr above ↦ absurd (other (omega arith))
        ]

    pub reaching-sorted : AreNext least longer (map tally_of sums) (moved 0 found)
    reaching-sorted = record {
      rising = λ i j d less inside.
          let long = moved-length 0 found in
          let rise = found-rising i j d less (omega arith) in
          let low = moved-rank 0 found i d in
          let high = moved-rank 0 found j d in
          omega arith;
      right = λ now held.
          let (next, in', is) = moved-from 0 found now held in
          let (rank, kept, told) = Contains-from (told_in longer sums) (filter (reaches least sums) touched) next
          (Contains-permutation found (found_of least longer sums touched) next (IsPermutation-sym (found_of least longer sums touched) found sorts) in') in
          let (met, reached) = Contains-filter (reaches least sums) touched rank kept in
          let sum : Sum = sum_in sums rank in
          let rank_is : now.rank ≡ rank = is.rank ∙ ap (λ (n : NextRank). n.rank) told in (
            tally_of sum,
            ap (slice_get (map tally_of sums)) rank_is ∙ slice_get-mapped_by tally_of sums rank sum (sum-at rank met),
            leb-true least sum.weight reached,
            record {
              weight = is.weight ∙ ap (λ (n : NextRank). n.weight) told;
              support = is.support ∙ ap (λ (n : NextRank). n.support) told;
              longer = is.longer ∙ ap (λ (n : NextRank). n.longer) told;
              stands = is.places ∙ ap (λ (n : NextRank). now.first + n.last) told;
            },
          );
      all = λ rank tally some at reached.
          let inside : rank < length sums = (let short = slice_get_within (map tally_of sums) rank tally at in let long = length-map sums tally_of in omega arith) in
          let (sum, there) = get-some sums rank inside in
          let tally_is : tally ≡ tally_of sum = same_Some tally (tally_of sum) (sym at ∙ slice_get-mapped_by tally_of sums rank sum there) in
          let weight_is : tally.weight ≡ sum.weight = ap (λ (t : Tally). t.weight) tally_is in
          elim (are.rest rank sum there) [
            | inl none ↦ let no' : sum.weight ≡ 0 = ap (λ (s : Sum). s.weight) none in absurd (omega (arith, some, reached, weight_is, no'))
            | inr met ↦
                let same : sum_in sums rank ≡ sum = get_or_from_slice_get sums rank sum nothing there in
                let enough : least ≤ (sum_in sums rank).weight = rw same (let e : least ≤ sum.weight = omega arith in e) in
                let next : NextRank = told_in longer sums rank in
                let held : Contains (found_of least longer sums touched) next =
                Contains-by (told_in longer sums) (filter (reaches least sums) touched) rank (filter-Contains (reaches least sums) touched rank met (le-leb least (sum_in sums rank).weight enough)) in
                moved-to 0 found next (Contains-permutation (found_of least longer sums touched) found next sorts held)
          ];
      laid_out = (end_from 0 found, moved-laid_out 0 found);
    }
