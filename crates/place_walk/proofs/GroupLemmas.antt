-- Stands, cut into those of each sequence.
use Rattle.std.proofs.Common.{◌≡◌, ℕ, zero, suc, ◌+◌, ◌-◌, ◌≤◌, ◌<◌, inl, inr, false, true, true≢false, IsTrue, Some, List, [], ◌∷◌, ◌++◌, length, take, drop, set, get_or, refl, sym, ap, ◌∙◌, subst, arith, append_assoc}
use Rattle.std.specs.List.{AllPairs, slice_get, slice_range}
use Rattle.std.proofs.lemmas.Bool.{cases_lt}
use Rattle.std.proofs.lemmas.Option.{same_Some}
use Rattle.std.proofs.lemmas.List.{append-nil, length-take, get_or-take, get_or-drop}
use Rattle.mine_model.proofs.ElementLemmas.{get-some}
use Rattle.place_walk.specs.declared.stand.Stand.{Stand}
use Rattle.place_walk.specs.declared.visit.Visit.{Visit}
use Rattle.place_walk.specs.Courses.{Course}
use Rattle.place_walk.specs.Visits.{AreVisits, AreVisitsOf}
use Rattle.place_walk.specs.Groups.{IsGroup, AreGroups, AreWalked}
use Rattle.place_walk.specs.Ways.{IsGroupEnd, with_first}

-- ---- fronts and rests of lists

pub get-behind : {X : Type 0} (front back : List X) (k : ℕ) → slice_get (front ++ back) (length front + k) ≡ slice_get back k
get-behind [] back k = ap (slice_get back) (let same : 0 + k ≡ k = omega arith in same)
get-behind (x ∷ front) back k =
    ap (slice_get (x ∷ (front ++ back))) (let same : suc (length front) + k ≡ suc (length front + k) = omega arith in same) ∙ get-behind front back k

pub get-front : {X : Type 0} (front back : List X) (k : ℕ) → k < length front → slice_get (front ++ back) k ≡ slice_get front k
get-front [] back k inside = absurd (omega arith)
get-front (x ∷ front) back zero inside = refl
get-front (x ∷ front) back (suc k) inside = get-front front back k (omega arith)

pub get-dropped : {X : Type 0} (xs : List X) (from k : ℕ) → slice_get (drop from xs) k ≡ slice_get xs (from + k)
get-dropped xs zero k = ap (slice_get xs) (let same : k ≡ 0 + k = omega arith in same)
get-dropped [] (suc from) k = refl
get-dropped (x ∷ xs) (suc from) k =
    get-dropped xs from k ∙ ap (slice_get (x ∷ xs)) (let same : suc (from + k) ≡ suc from + k = omega arith in same)

pub take-front : {X : Type 0} (front back : List X) → take (length front) (front ++ back) ≡ front
take-front [] back = refl
take-front (x ∷ front) back = ap (λ (l : List _). x ∷ l) (take-front front back)

pub drop-front : {X : Type 0} (front back : List X) → drop (length front) (front ++ back) ≡ back
drop-front [] back = refl
drop-front (x ∷ front) back = drop-front front back

drop-twice : {X : Type 0} (xs : List X) (from more : ℕ) → drop more (drop from xs) ≡ drop (from + more) xs
drop-twice xs zero more = ap (λ (n : ℕ). drop n xs) (let same : more ≡ 0 + more = omega arith in same)
drop-twice {X} [] (suc from) zero = ap (λ (n : ℕ). let none : List X = [] in drop n none) (let same : suc from ≡ suc from + 0 = omega arith in same)
drop-twice {X} [] (suc from) (suc more) = ap (λ (n : ℕ). let none : List X = [] in drop n none) (let same : suc (from + suc more) ≡ suc from + suc more = omega arith in same)
drop-twice (x ∷ xs) (suc from) more =
    drop-twice xs from more ∙ ap (λ (n : ℕ). drop n (x ∷ xs)) (let same : suc (from + more) ≡ suc from + more = omega arith in same)

-- what holds of each element and each later one holds within a range
pub pairs-within : {X : Type 0} (R : X → X → Type 0) (xs : List X) (from end : ℕ) → AllPairs R xs → end ≤ length xs → AllPairs R (slice_range xs from end)
pairs-within R xs from end pairs inside i j d less within =
    let most : j < end - from = omega (arith, within, length-take (end - from) (drop from xs)) in
    let first : get_or (slice_range xs from end) i d ≡ get_or xs (from + i) d = get_or-take (end - from) (drop from xs) i d (omega arith) ∙ get_or-drop from xs i d in
    let second : get_or (slice_range xs from end) j d ≡ get_or xs (from + j) d = get_or-take (end - from) (drop from xs) j d most ∙ get_or-drop from xs j d in
    rw (first, second) (pairs (from + i) (from + j) d (omega arith) (omega arith))

-- ---- the end of a group

-- the first stand behind a group is marked
next-marked : (behind : List Stand) (groups : List (List Stand)) (stand : Stand) → AreGroups behind groups → slice_get behind 0 ≡ Some stand → IsTrue stand.first
next-marked behind [] stand none first = absurd (let no' : slice_get [] 0 ≡ Some stand = subst (λ (l : List Stand). slice_get l 0 ≡ Some stand) none first in cc)
next-marked behind (group ∷ groups) stand (rest, cut, is, are) first =
    let here : slice_get (group ++ rest) 0 ≡ Some stand = subst (λ (l : List Stand). slice_get l 0 ≡ Some stand) cut first in
    (is.marked 0 stand (sym (get-front group rest 0 is.some) ∙ here)).1 refl

module _ (stands : List Stand) (from end : ℕ) (ends : IsGroupEnd stands from end) (group behind : List Stand) (groups : List (List Stand))
    (cut : drop from stands ≡ group ++ behind) (is : IsGroup group) (are : AreGroups behind groups) where
  read : (k : ℕ) → slice_get (group ++ behind) k ≡ slice_get stands (from + k)
  read k = subst (λ (l : List Stand). slice_get l k ≡ slice_get stands (from + k)) cut (get-dropped stands from k)

  -- it does not end early
  not-short : length group < end - from → ⊥
  not-short short =
      let some = is.some in
      let within = ends.within in
      let (stand, there) = get-some stands (from + length group) (omega arith) in
      let first : slice_get behind 0 ≡ Some stand =
      sym (get-behind group behind 0) ∙ ap (slice_get (group ++ behind)) (let e : length group + 0 ≡ length group = omega arith in e) ∙ read (length group) ∙ there in
      let plain : stand.first ≡ false = ends.here (from + length group) stand (omega arith) (omega arith) there in
      true≢false (sym (next-marked behind groups stand are first) ∙ plain)

  -- nor late
  not-long : end - from < length group → ⊥
  not-long long =
      let some = ends.some in
      let (stand, there) = get-some group (end - from) long in
      let at : slice_get stands (from + (end - from)) ≡ Some stand = sym (read (end - from)) ∙ get-front group behind (end - from) long ∙ there in
      let index : from + (end - from) ≡ end = omega arith in
      let mark : IsTrue stand.first = ends.next stand (subst (λ (k : ℕ). slice_get stands k ≡ Some stand) index at) in
      let first : end - from ≡ 0 = (is.marked (end - from) stand there).0 mark in
      omega arith

  long-as : length group ≡ end - from
  long-as = elim (cases_lt (length group) (end - from)) [
    | inl short ↦ absurd (not-short short)
    | inr enough ↦ elim (cases_lt (end - from) (length group)) [
      | inl long ↦ absurd (not-long long)
      | inr most ↦ omega arith
    ]
  ]

  -- so the stands up to the end are the group
  pub group-is : slice_range stands from end ≡ group
  group-is =
      rw (← long-as) (ap (take (length group)) cut ∙ take-front group behind)

  pub behind-is : drop end stands ≡ behind
  behind-is =
      let some = ends.some in
      let sum : from + length group ≡ end = (let long = long-as in omega arith) in
      subst (λ (k : ℕ). drop k stands ≡ behind) sum (sym (drop-twice stands from (length group)) ∙ ap (drop (length group)) cut ∙ drop-front group behind)

-- ---- visits of groups

visits-of-more : (course : Course) (done : List (List Stand)) (visits : List Visit) (group : List Stand) (here : List Visit) → AreVisitsOf course done visits
    → AreVisits course group here → AreVisitsOf course (done ++ group ∷ []) (visits ++ here)
visits-of-more course [] visits group here none are =
    (here, [], rw none (sym (append-nil here)), are, refl)
visits-of-more course (first ∷ done) visits group here (one, others, cut, one_are, others_are) are =
    (one, others ++ here, rw cut (append_assoc one others here), one_are, visits-of-more course done others group here others_are are)

-- no sequence was walked yet
pub walked-none : (course : Course) (groups : List (List Stand)) (left : List Stand) → AreGroups left groups → AreWalked course groups left []
walked-none course groups left are = record { done = []; rest = groups; cut = refl; left_are = are; visits_are = refl }

-- one more was
pub walked-more : (course : Course) (groups : List (List Stand)) (stands : List Stand) (from end : ℕ) (visits here : List Visit) → AreWalked course groups (drop from stands) visits
    → IsGroupEnd stands from end → AreVisits course (slice_range stands from end) here → AreWalked course groups (drop end stands) (visits ++ here)
walked-more course groups stands from end visits here walked ends are =
    elim walked.rest as (λ (rest : List (List Stand)). (groups ≡ walked.done ++ rest) → AreGroups (drop from stands) rest → AreWalked course groups (drop end stands) (visits ++ here)) [
      | [] ↦ λ cut none.
          let some = ends.some in
          let within = ends.within in
          let (stand, there) = get-some stands from (omega arith) in
          let at : slice_get (drop from stands) 0 ≡ Some stand = get-dropped stands from 0 ∙ ap (slice_get stands) (let e : from + 0 ≡ from = omega arith in e) ∙ there in
          let no' : slice_get [] 0 ≡ Some stand = subst (λ (l : List Stand). slice_get l 0 ≡ Some stand) none at in
          absurd (cc)
      | group ∷ rest ↦ λ cut (behind, split, is, left).
          record {
            done = walked.done ++ group ∷ [];
            rest = rest;
            cut = cut ∙ sym (append_assoc walked.done (group ∷ []) rest);
            left_are = subst (λ (l : List Stand). AreGroups l rest) (sym (behind-is stands from end ends group behind rest split is left)) left;
            visits_are = visits-of-more course walked.done visits group here walked.visits_are
                (subst (λ (l : List Stand). AreVisits course l here) (group-is stands from end ends group behind rest split is left) are);
          }
    ] walked.cut walked.left_are

-- ---- the first visit of a group

pub set-marked : (before here : List Visit) (visit : Visit) → slice_get (before ++ here) (length before) ≡ Some visit
    → set (before ++ here) (length before) (record { place = visit.place; kind = visit.kind; action = visit.action; first = true }) ≡ before ++ with_first here
set-marked [] [] visit is = absurd (cc)
set-marked [] (first ∷ here) visit is =
    let same : first ≡ visit = same_Some first visit is in
    ap (λ (v : Visit). let mark : Visit = record { place = v.place; kind = v.kind; action = v.action; first = true } in mark ∷ here) (sym same)
set-marked (first ∷ before) here visit is = ap (λ (vs : List Visit). first ∷ vs) (set-marked before here visit is)
