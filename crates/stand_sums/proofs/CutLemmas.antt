-- Visits, cut into those of each sequence.
use Rattle.std.proofs.Common.{◌≡◌, ℕ, zero, suc, ◌+◌, ◌-◌, ◌≤◌, ◌<◌, inl, inr, false, true≢false, IsTrue, Some, List, [], ◌∷◌, ◌++◌, length, take, drop, refl, sym, ap, ◌∙◌, subst, arith}
use Rattle.std.specs.List.{AllByRecursion, slice_get, slice_range}
use Rattle.std.proofs.lemmas.Bool.{cases_lt}
use Rattle.std.proofs.lemmas.List.{take-append-drop, drop-drop}
use Rattle.mine_model.proofs.ElementLemmas.{get-some}
use Rattle.place_walk.specs.declared.visit.Visit.{Visit}
use Rattle.stand_sums.specs.Sequences.{IsSequence, AreSequences}
use Rattle.stand_sums.specs.Kept.{IsSequenceEnd}
use Rattle.place_walk.proofs.GroupLemmas.{get-behind, get-front, get-dropped, take-front, drop-front}

-- ---- fronts and rests of lists

take-sum : {X : Type 0} (xs : List X) (from more : ℕ) → take (from + more) xs ≡ take from xs ++ take more (drop from xs)
take-sum xs zero more = ap (λ (n : ℕ). take n xs) (let same : 0 + more ≡ more = omega arith in same)
take-sum {X} [] (suc from) zero = ap (λ (n : ℕ). let none : List X = [] in take n none) (let same : suc from + 0 ≡ suc from = omega arith in same)
take-sum {X} [] (suc from) (suc more) = ap (λ (n : ℕ). let none : List X = [] in take n none) (let same : suc from + suc more ≡ suc (from + suc more) = omega arith in same)
take-sum (x ∷ xs) (suc from) more =
    ap (λ (n : ℕ). take n (x ∷ xs)) (let same : suc from + more ≡ suc (from + more) = omega arith in same) ∙ ap (λ (l : List _). x ∷ l) (take-sum xs from more)

-- what was read up to the end is what was read up to a place, and what lies between
pub take-range : {X : Type 0} (xs : List X) (from end : ℕ) → from ≤ end → take end xs ≡ take from xs ++ slice_range xs from end
take-range xs from end forward =
    ap (λ (n : ℕ). take n xs) (let same : end ≡ from + (end - from) = omega arith in same) ∙ take-sum xs from (end - from)

-- what is left from a place on is what lies between it and the end, and what is left from there
pub drop-range : {X : Type 0} (xs : List X) (from end : ℕ) → from ≤ end → drop from xs ≡ slice_range xs from end ++ drop end xs
drop-range xs from end forward =
    sym (take-append-drop (end - from) (drop from xs))
    ∙ ap (λ (l : List _). slice_range xs from end ++ l) (drop-drop (end - from) from xs ∙ ap (λ (n : ℕ). drop n xs) (let same : from + (end - from) ≡ end = omega arith in same))

-- ---- the end of a sequence

-- sequences that have no visits
abbrev pub AreNone : List (List Visit) → Type 0
AreNone sequences = AllByRecursion (λ here. here ≡ []) sequences

-- the first visit behind a sequence is marked
next-marked : (behind : List Visit) (others : List (List Visit)) (visit : Visit) → AreSequences behind others → slice_get behind 0 ≡ Some visit → IsTrue visit.first
next-marked behind [] visit none first = absurd (let no' : slice_get [] 0 ≡ Some visit = subst (λ (l : List Visit). slice_get l 0 ≡ Some visit) none first in cc)
next-marked behind ([] ∷ others) visit (rest, cut, is, are) first =
    next-marked rest others visit are (subst (λ (l : List Visit). slice_get l 0 ≡ Some visit) cut first)
next-marked behind ((one ∷ here) ∷ others) visit (rest, cut, is, are) first =
    let there : slice_get (one ∷ here) 0 ≡ Some visit = subst (λ (l : List Visit). slice_get l 0 ≡ Some visit) cut first in
    (is 0 visit there).1 refl

module _ (visits : List Visit) (from end : ℕ) (ends : IsSequenceEnd visits from end) (here behind : List Visit) (others : List (List Visit))
    (cut : drop from visits ≡ here ++ behind) (some : 0 < length here) (is : IsSequence here) (are : AreSequences behind others) where
  read : (k : ℕ) → slice_get (here ++ behind) k ≡ slice_get visits (from + k)
  read k = subst (λ (l : List Visit). slice_get l k ≡ slice_get visits (from + k)) cut (get-dropped visits from k)

  -- it does not end early
  not-short : length here < end - from → ⊥
  not-short short =
      let within = ends.within in
      let (visit, there) = get-some visits (from + length here) (omega arith) in
      let first : slice_get behind 0 ≡ Some visit =
      sym (get-behind here behind 0) ∙ ap (slice_get (here ++ behind)) (let e : length here + 0 ≡ length here = omega arith in e) ∙ read (length here) ∙ there in
      let plain : visit.first ≡ false = ends.here (from + length here) visit (omega arith) (omega arith) there in
      true≢false (sym (next-marked behind others visit are first) ∙ plain)

  -- nor late
  not-long : end - from < length here → ⊥
  not-long long =
      let some_end = ends.some in
      let (visit, there) = get-some here (end - from) long in
      let at : slice_get visits (from + (end - from)) ≡ Some visit = sym (read (end - from)) ∙ get-front here behind (end - from) long ∙ there in
      let index : from + (end - from) ≡ end = omega arith in
      let mark : IsTrue visit.first = ends.next visit (subst (λ (k : ℕ). slice_get visits k ≡ Some visit) index at) in
      let first : end - from ≡ 0 = (is (end - from) visit there).0 mark in
      omega arith

  long-as : length here ≡ end - from
  long-as = elim (cases_lt (length here) (end - from)) [
    | inl short ↦ absurd (not-short short)
    | inr enough ↦ elim (cases_lt (end - from) (length here)) [
      | inl long ↦ absurd (not-long long)
      | inr most ↦ omega arith
    ]
  ]

  -- so the visits up to the end are those of the sequence
  pub here-is : slice_range visits from end ≡ here
  here-is =
      rw (← long-as) (ap (take (length here)) cut ∙ take-front here behind)

  pub behind-is : drop end visits ≡ behind
  behind-is =
      let some_end = ends.some in
      let sum : from + length here ≡ end = (let long = long-as in omega arith) in
      subst (λ (k : ℕ). drop k visits ≡ behind) sum (sym (drop-drop (length here) from visits) ∙ ap (drop (length here)) cut ∙ drop-front here behind)

-- ---- the next sequence

-- of what is left the next sequence that has visits ends there, and others are left
pub record IsNextCut (visits : List Visit) (from end : ℕ) (left : List (List Visit)) : Type 0 where
  pub none : List (List Visit)
  pub others : List (List Visit)
  pub empty : AreNone none
  pub cut : left ≡ none ++ (slice_range visits from end ∷ others)
  pub marked : IsSequence (slice_range visits from end)
  pub are : AreSequences (drop end visits) others

pub next-cut : (visits : List Visit) (from end : ℕ) → IsSequenceEnd visits from end → (left : List (List Visit)) → AreSequences (drop from visits) left → IsNextCut visits from end left
next-cut visits from end ends [] none =
    let some = ends.some in
    let within = ends.within in
    let (visit, there) = get-some visits from (omega arith) in
    let at : slice_get (drop from visits) 0 ≡ Some visit = get-dropped visits from 0 ∙ ap (slice_get visits) (let e : from + 0 ≡ from = omega arith in e) ∙ there in
    let no' : slice_get [] 0 ≡ Some visit = subst (λ (l : List Visit). slice_get l 0 ≡ Some visit) none at in
    absurd (cc)
next-cut visits from end ends ([] ∷ left) (behind, cut, is, are) =
    let next = next-cut visits from end ends left (subst (λ (l : List Visit). AreSequences l left) (sym cut) are) in
    record {
      none = [] ∷ next.none;
      others = next.others;
      empty = (refl, next.empty);
      cut = ap (λ (l : List (List Visit)). let no' : List Visit = [] in no' ∷ l) next.cut;
      marked = next.marked;
      are = next.are;
    }
next-cut visits from end ends ((one ∷ here) ∷ left) (behind, cut, is, are) =
    let some : 0 < length (one ∷ here) = omega arith in
    let same = here-is visits from end ends (one ∷ here) behind left cut some is are in
    record {
      none = [];
      others = left;
      empty = tt;
      cut = ap (λ (l : List Visit). l ∷ left) (sym same);
      marked = subst IsSequence (sym same) is;
      are = subst (λ (l : List Visit). AreSequences l left) (sym (behind-is visits from end ends (one ∷ here) behind left cut some is are)) are;
    }

-- where no visits are left, the sequences that are left have none
pub all-none : (visits : List Visit) (left : List (List Visit)) → visits ≡ [] → AreSequences visits left → AreNone left
all-none visits [] none are = tt
all-none visits ([] ∷ left) none (behind, cut, is, are) = (refl, all-none behind left (sym cut ∙ none) are)
all-none visits ((one ∷ here) ∷ left) none (behind, cut, is, are) =
    let no' : [] ≡ one ∷ (here ++ behind) = sym none ∙ cut in absurd (cc)
