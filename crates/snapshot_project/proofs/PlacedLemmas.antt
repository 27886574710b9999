-- Ranks that have places, among those that were found.
use Rattle.std.proofs.Common.{◌≡◌, ℕ, zero, suc, ◌+◌, ◌≤◌, ◌<◌, inl, inr, Bool, true, false, Option, Some, List, [], ◌∷◌, length, map, filter, take, get_or, cond, refl, sym, ap, ◌∙◌, subst, arith}
use Rattle.std.specs.List.{Contains, slice_get}
use Rattle.std.proofs.lemmas.List.{length-map, take_more, take_all}
use Rattle.std.proofs.lemmas.List.Elements.{Contains-push_cases}
use Rattle.std.proofs.lemmas.List.Filters.{length-filter_more}
use Rattle.std.proofs.lemmas.Option.{same_Some, slice_get_within}
use Rattle.mine_model.proofs.ElementLemmas.{get-some, slice_get-mapped_by}
use Rattle.stand_sums.specs.declared.next_rank.NextRank.{NextRank}
use Rattle.level_ahead.specs.Counts.{Behind, is_asked, asked_of}

-- a rank that is asked about is the next of those that are
chosen-at : (lack : Option ℕ) (found : List NextRank) (k : ℕ) (next : NextRank) → slice_get found k ≡ Some next → is_asked lack next ≡ true
    → slice_get (filter (is_asked lack) found) (length (filter (is_asked lack) (take k found))) ≡ Some next
chosen-at lack [] k next at has = absurd (cc)
chosen-at lack (first ∷ found) zero next at has =
    let same : first ≡ next = same_Some first next at in
    let here : is_asked lack first ≡ true = ap (is_asked lack) same ∙ has in
    rw here (ap Some same)
chosen-at lack (first ∷ found) (suc k) next at has = by (is_asked lack first) refl (chosen-at lack found k next at has)
  where
    by : (b : Bool) → is_asked lack first ≡ b → slice_get (filter (is_asked lack) found) (length (filter (is_asked lack) (take k found))) ≡ Some next
        → slice_get (filter (is_asked lack) (first ∷ found)) (length (filter (is_asked lack) (first ∷ take k found))) ≡ Some next
    by true here there = rw here there
    by false here there = rw here there

-- what is counted behind it
pub entry-of : (lack : Option ℕ) (ahead : List Behind) (found : List NextRank) → asked_of ahead ≡ map (λ next. next.rank) (filter (is_asked lack) found)
    → (k : ℕ) (next : NextRank) → slice_get found k ≡ Some next → is_asked lack next ≡ true
    → (behind : Behind) × (slice_get ahead (length (filter (is_asked lack) (take k found))) ≡ Some behind) × (behind.rank ≡ next.rank)
entry-of lack ahead found asked k next at some =
    let e : ℕ = length (filter (is_asked lack) (take k found)) in
    let there : slice_get (filter (is_asked lack) found) e ≡ Some next = chosen-at lack found k next at some in
    let told : slice_get (asked_of ahead) e ≡ Some next.rank =
    ap (λ (l : List ℕ). slice_get l e) asked ∙ slice_get-mapped_by (λ (n : NextRank). n.rank) (filter (is_asked lack) found) e next there in
    let inside : e < length (asked_of ahead) = slice_get_within (asked_of ahead) e next.rank told in
    let long : length (asked_of ahead) ≡ length ahead = length-map ahead (λ (b : Behind). b.rank) in
    let (behind, here) = get-some ahead e (omega arith) in
    (behind, here, same_Some behind.rank next.rank (sym (slice_get-mapped_by (λ (b : Behind). b.rank) ahead e behind here) ∙ told))

-- one more that has places, or has none
pub count-yes : (lack : Option ℕ) (found : List NextRank) (k : ℕ) (d : NextRank) → k < length found → is_asked lack (get_or found k d) ≡ true
    → length (filter (is_asked lack) (take (k + 1) found)) ≡ length (filter (is_asked lack) (take k found)) + 1
count-yes lack found k d inside is =
    length-filter_more (is_asked lack) found k d inside ∙ ap (λ (b : Bool). length (filter (is_asked lack) (take k found)) + cond b 1 0) is

pub count-no : (lack : Option ℕ) (found : List NextRank) (k : ℕ) (d : NextRank) → k < length found → is_asked lack (get_or found k d) ≡ false
    → length (filter (is_asked lack) (take (k + 1) found)) ≡ length (filter (is_asked lack) (take k found))
count-no lack found k d inside is =
    let more : length (filter (is_asked lack) (take (k + 1) found)) ≡ length (filter (is_asked lack) (take k found)) + 0 =
    length-filter_more (is_asked lack) found k d inside ∙ ap (λ (b : Bool). length (filter (is_asked lack) (take k found)) + cond b 1 0) is in
    omega arith

-- not more than were looked at
pub count-most : (lack : Option ℕ) (found : List NextRank) → length (filter (is_asked lack) found) ≤ length found
count-most lack [] = omega arith
count-most lack (next ∷ found) = by (is_asked lack next) refl (count-most lack found)
  where
    by : (b : Bool) → is_asked lack next ≡ b → length (filter (is_asked lack) found) ≤ length found → length (filter (is_asked lack) (next ∷ found)) ≤ suc (length found)
    by true is most = rw is (omega (arith, most))
    by false is most = rw is (omega (arith, most))

-- ---- one after another

-- what holds of the first so many, and of one more
pub so-far : (P : NextRank → Type 0) (found : List NextRank) (k : ℕ) (d : NextRank) → k < length found → ((next : NextRank) → Contains (take k found) next → P next) → P (get_or found k d)
    → (next : NextRank) → Contains (take (k + 1) found) next → P next
so-far P found k d inside before this next held =
    elim (Contains-push_cases (take k found) (get_or found k d) next (subst (λ (l : List NextRank). Contains l next) (take_more found k d inside) held)) [
      | inl there ↦ before next there
      | inr same ↦ subst P same this
    ]

pub so-all : (P : NextRank → Type 0) (found : List NextRank) (k : ℕ) → length found ≤ k → ((next : NextRank) → Contains (take k found) next → P next) → (next : NextRank) → Contains found next → P next
so-all P found k past before = subst (λ (l : List NextRank). (next : NextRank) → Contains l next → P next) (take_all k found past) before
