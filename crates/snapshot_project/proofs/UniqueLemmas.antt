-- A group of stands has one list of visits.
use Rattle.std.proofs.Common.{◌≡◌, ℕ, suc, inl, inr, Bool, true, false, IsTrue, Some, List, [], ◌∷◌, ◌++◌, map, get_or, refl, sym, ap, ◌∙◌, subst, arith}
use Rattle.std.specs.List.{AllPairs, AllZip, Contains, slice_get}
use Rattle.std.proofs.lemmas.List.{get_or_default}
use Rattle.std.proofs.lemmas.List.Kept.{AllPairs-cons}
use Rattle.mine_model.proofs.ListLemmas.{Contains-first, Contains-other, Contains-by, Contains-from, AllPairs-tail, AllPairs-head, order-same}
use Rattle.walk_memo.specs.declared.action.Action.{Action}
use Rattle.place_walk.specs.declared.stand.Stand.{Stand}
use Rattle.place_walk.specs.declared.visit.Visit.{Visit}
use Rattle.place_walk.specs.Courses.{Course}
use Rattle.place_walk.specs.Visits.{HasVisit, IsBefore, AreVisits}
use Rattle.stand_sums.specs.Sequences.{IsSequence}

-- ---- lists that rise

-- what holds of each two of a mapped list
pub pairs-map : {X Y : Type 0} (R : X → X → Type 0) (S : Y → Y → Type 0) (f : X → Y) (xs : List X)
    → ((x z : X) → Contains xs x → Contains xs z → R x z → S (f x) (f z)) → AllPairs R xs → AllPairs S (map f xs)
pairs-map R S f [] follows pairs = λ i j d less inside. absurd (omega arith)
pairs-map R S f (x ∷ xs) follows pairs =
    AllPairs-cons S (f x) (map f xs)
    (λ k d below.
    let (z, there, is) = Contains-from f xs (get_or (map f xs) k d) (k, below, get_or_default (map f xs) k (get_or (map f xs) k d) d below) in
    subst (S (f x)) (sym is) (follows x z (Contains-first x xs) (Contains-other x xs z there) (AllPairs-head R x xs pairs z there)))
    (pairs-map R S f xs (λ a b here there. follows a b (Contains-other x xs a here) (Contains-other x xs b there)) (AllPairs-tail R x xs pairs))

-- ---- visits without marks

-- the visit, not marked
abbrev plain : Visit → Visit
plain visit = record { place = visit.place; kind = visit.kind; action = visit.action; first = false }

plain-held : (visits others : List Visit) → ((place kind : ℕ) (action : Action) → HasVisit visits place kind action → HasVisit others place kind action)
    → (visit : Visit) → Contains (map plain visits) visit → Contains (map plain others) visit
plain-held visits others has visit held =
    let (one, there, is) = Contains-from plain visits visit held in
    let (other, among, place_is, kind_is, action_is) = has one.place one.kind one.action (one, there, refl, refl, refl) in
    let same : plain other ≡ plain one = λ i. record { place = place_is i; kind = kind_is i; action = action_is i; first = false } in
    subst (Contains (map plain others)) (same ∙ sym is) (Contains-by plain others other among)

before-once : (one other : Visit) → IsBefore one other → IsBefore other one → ⊥
before-once one other (inl less) (inl more) = omega arith
before-once one other (inl less) (inr (same, more)) = omega arith
before-once one other (inr (same, less)) (inl more) = omega arith
before-once one other (inr (same, less)) (inr (same', more)) = omega arith

plain-same : (course : Course) (group : List Stand) (one other : List Visit) → AreVisits course group one → AreVisits course group other → map plain one ≡ map plain other
plain-same course group one other are those =
    order-same IsBefore before-once (map plain one) (map plain other)
    (pairs-map IsBefore IsBefore plain one (λ x z here there before. before) are.rising)
    (pairs-map IsBefore IsBefore plain other (λ x z here there before. before) those.rising)
    (plain-held one other (λ place kind action has. (those.exact place kind action).1 ((are.exact place kind action).0 has)))
    (plain-held other one (λ place kind action has. (are.exact place kind action).1 ((those.exact place kind action).0 has)))

-- ---- marks

not-marked : (b : Bool) → (IsTrue b → ⊥) → b ≡ false
not-marked true no' = absurd (no' refl)
not-marked false no' = refl

-- behind the first visit of a sequence none is marked
rest-plain : (visit : Visit) (visits : List Visit) → IsSequence (visit ∷ visits) → (k : ℕ) (one : Visit) → slice_get visits k ≡ Some one → one.first ≡ false
rest-plain visit visits marks k one at =
    not-marked one.first (λ marked. absurd (let no' : suc k ≡ 0 = (marks (suc k) one at).0 marked in omega arith))

plain-self : (visits : List Visit) → ((k : ℕ) (one : Visit) → slice_get visits k ≡ Some one → one.first ≡ false) → map plain visits ≡ visits
plain-self [] none = refl
plain-self (visit ∷ visits) none =
    let mark : visit.first ≡ false = none 0 visit refl in
    let head : plain visit ≡ visit = λ i. record { place = visit.place; kind = visit.kind; action = visit.action; first = sym mark i } in
    let rest : map plain visits ≡ visits = plain-self visits (λ k one at. none (suc k) one at) in
    λ i. head i ∷ rest i

-- the index tells the mark
marks-same : (one other : List Visit) → map plain one ≡ map plain other → IsSequence one → IsSequence other → one ≡ other
marks-same [] [] same left right = refl
marks-same [] (y ∷ ys) same left right = absurd (cc)
marks-same (x ∷ xs) [] same left right = absurd (cc)
marks-same (x ∷ xs) (y ∷ ys) same left right =
    let heads : plain x ≡ plain y = cc in
    let tails : map plain xs ≡ map plain ys = cc in
    let first : x.first ≡ y.first = (left 0 x refl).1 refl ∙ sym ((right 0 y refl).1 refl) in
    let head : x ≡ y = λ i. record {
      place = ap (λ (v : Visit). v.place) heads i;
      kind = ap (λ (v : Visit). v.kind) heads i;
      action = ap (λ (v : Visit). v.action) heads i;
      first = first i;
    } in
    let rest : xs ≡ ys = sym (plain-self xs (rest-plain x xs left)) ∙ tails ∙ plain-self ys (rest-plain y ys right) in
    λ i. head i ∷ rest i

-- ---- what is wanted

pub visits-unique : (course : Course) (group : List Stand) (one other : List Visit) → AreVisits course group one → AreVisits course group other → one ≡ other
visits-unique course group one other are those = marks-same one other (plain-same course group one other are those) are.first those.first

-- so for the groups of several sequences
pub sequences-unique : (course : Course) (groups : List (List Stand)) (ones others : List (List Visit)) → AllZip (AreVisits course) groups ones
    → AllZip (AreVisits course) groups others → ones ≡ others
sequences-unique course [] [] [] are those = refl
sequences-unique course [] [] (other ∷ others) are those = absurd those
sequences-unique course [] (one ∷ ones) others are those = absurd are
sequences-unique course (group ∷ groups) [] others are those = absurd are
sequences-unique course (group ∷ groups) (one ∷ ones) [] are those = absurd those
sequences-unique course (group ∷ groups) (one ∷ ones) (other ∷ others) (is, are) (this, those) =
    let first : one ≡ other = visits-unique course group one other is this in
    let rest : ones ≡ others = sequences-unique course groups ones others are those in
    λ i. first i ∷ rest i

-- ---- sequences of some groups, and of more

module _ {X Y : Type 0} (R : X → Y → Type 0) where
  pub zip-append : (xs others : List X) (ys more : List Y) → AllZip R xs ys → AllZip R others more → AllZip R (xs ++ others) (ys ++ more)
  zip-append [] others [] more here there = there
  zip-append [] others (y ∷ ys) more here there = absurd here
  zip-append (x ∷ xs) others [] more here there = absurd here
  zip-append (x ∷ xs) others (y ∷ ys) more (first, here) there = (first, zip-append xs others ys more here there)

  zip-cut : (xs others : List X) (ys : List Y) → AllZip R (xs ++ others) ys
      → (front : List Y) × (back : List Y) × (ys ≡ front ++ back) × AllZip R xs front × AllZip R others back
  zip-cut [] others ys all = ([], ys, refl, tt, all)
  zip-cut (x ∷ xs) others [] all = absurd all
  zip-cut (x ∷ xs) others (y ∷ ys) (first, all) =
      let (front, back, cut, here, there) = zip-cut xs others ys all in
      (y ∷ front, back, ap (λ (l : List Y). y ∷ l) cut, (first, here), there)

-- a walk over some of the groups finds the visits that a walk over all of them found first
pub sequences-cut : (course : Course) (groups done rest : List (List Stand)) (all these : List (List Visit)) → groups ≡ done ++ rest
    → AllZip (AreVisits course) groups all → AllZip (AreVisits course) done these
    → (others : List (List Visit)) × (all ≡ these ++ others) × AllZip (AreVisits course) rest others
sequences-cut course groups done rest all these cut whole are =
    let (front, back, split, here, there) = zip-cut (AreVisits course) done rest all (subst (λ (l : List (List Stand)). AllZip (AreVisits course) l all) cut whole) in
    (back, split ∙ ap (λ (l : List (List Visit)). l ++ back) (sequences-unique course done front these here are), there)
