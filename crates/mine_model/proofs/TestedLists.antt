-- A test of lists that passes only for the ancestor lists of a hierarchy. It computes at lists that are written out,
-- as those of a crate's tests are: there `AreAncestorLists-tested ends lists refl` is the proof.
use Rattle.std.proofs.Common.{◌≡◌, ℕ, zero, suc, ◌<◌, inl, inr, Bool, true, false, ◌&&◌, ◌||◌, not, eqb, ltb, leb, List, [], ◌∷◌, length, get_or, refl, ap, ◌∙◌, arith}
use Rattle.std.specs.List.{slice_index, Contains}
use Rattle.std.proofs.lemmas.Bool.{and_parts, false≢true, eqb-true, eq-eqb, leb-true, ltb-true, cases_eq}
use Rattle.std.proofs.lemmas.List.Elements.{Contains-get_or}
use Rattle.mine_model.specs.declared.item.Item.{Item}
use Rattle.flat_lists.specs.Cuts.{start_of, list_at}
use Rattle.mine_model.specs.Ancestry.{item_at, AreRising, Lists, AreAncestorLists}
use Rattle.mine_model.proofs.AncestryLemmas.{Item-same}
use Rattle.mine_model.proofs.ListLemmas.{Contains-cases, Contains-first, Contains-other, Contains-none}

or_other : (a b : Bool) → a ≡ true → (not a || b) ≡ true → b ≡ true
or_other true b h either = either
or_other false b h either = absurd (false≢true h)

-- each number below n passes
abbrev pub all_below : ℕ → (ℕ → Bool) → Bool
all_below zero p = true
all_below (suc n) p = p n && all_below n p

below_all : (n : ℕ) (p : ℕ → Bool) → all_below n p ≡ true → (k : ℕ) → k < n → p k ≡ true
below_all zero p h k less = absurd (omega arith)
below_all (suc n) p h k less = elim (cases_eq k n) [
  | inl same ↦ ap p same ∙ (and_parts (p n) (all_below n p) h).0
  | inr apart ↦ below_all n p (and_parts (p n) (all_below n p) h).1 k (omega arith)
]

-- each item passes
abbrev pub all_of : (Item → Bool) → List Item → Bool
all_of p [] = true
all_of p (x ∷ xs) = p x && all_of p xs

of_all : (p : Item → Bool) (xs : List Item) → all_of p xs ≡ true → (x : Item) → Contains xs x → p x ≡ true
of_all p [] h x inside = absurd (Contains-none x inside)
of_all p (y ∷ ys) h x inside = elim (Contains-cases y ys x inside) [
  | inl same ↦ ap p same ∙ (and_parts (p y) (all_of p ys) h).0
  | inr later ↦ of_all p ys (and_parts (p y) (all_of p ys) h).1 x later
]

-- the item is one of them
abbrev pub among : List Item → Item → Bool
among [] w = false
among (x ∷ xs) w = eqb w.0 x.0 || among xs w

is_among : (xs : List Item) (w : Item) → among xs w ≡ true → Contains xs w
is_among [] w h = absurd (false≢true h)
is_among (x ∷ xs) w h = by (eqb w.0 x.0) refl (λ rest. is_among xs w rest) h
  where
    by : (b : Bool) → eqb w.0 x.0 ≡ b → (among xs w ≡ true → Contains xs w) → (b || among xs w) ≡ true → Contains (x ∷ xs) w
    by true e later h = rw (Item-same w x (eqb-true w.0 x.0 e)) (Contains-first x xs)
    by false e later h = Contains-other x xs w (later h)

among_is : (xs : List Item) (w : Item) → Contains xs w → among xs w ≡ true
among_is [] w inside = absurd (Contains-none w inside)
among_is (x ∷ xs) w inside = elim (Contains-cases x xs w inside) [
  | inl same ↦ ap (λ b. b || among xs w) (eq-eqb w.0 x.0 (ap (λ (y : Item). y.0) same))
  | inr later ↦ by (eqb w.0 x.0) (among_is xs w later)
]
  where
    by : (b : Bool) → among xs w ≡ true → (b || among xs w) ≡ true
    by true e = refl
    by false e = e

-- their numbers rise
abbrev pub rises : List Item → Bool
rises [] = true
rises (x ∷ xs) = all_of (λ y. ltb x.0 y.0) xs && rises xs

rise : (xs : List Item) → rises xs ≡ true → AreRising xs
rise [] h i j d less inside = absurd (omega arith)
rise (x ∷ xs) h zero zero d less inside = absurd (omega arith)
rise (x ∷ xs) h zero (suc j) d less inside =
    let one : ltb x.0 (get_or xs j d).0 ≡ true = of_all (λ y. ltb x.0 y.0) xs (and_parts (all_of (λ y. ltb x.0 y.0) xs) (rises xs) h).0 (get_or xs j d) (Contains-get_or xs j d (omega arith)) in
    ltb-true x.0 (get_or xs j d).0 one
rise (x ∷ xs) h (suc i) zero d less inside = absurd (omega arith)
rise (x ∷ xs) h (suc i) (suc j) d less inside =
    rise xs (and_parts (all_of (λ y. ltb x.0 y.0) xs) (rises xs) h).1 i j d (omega arith) (omega arith)

module _ (ends : List ℕ) (lists : List Item) where
  abbrev pub list_of : ℕ → List Item
  list_of t = list_at ends lists t

  abbrev pub runs_forward : ℕ → Bool
  runs_forward k = leb (start_of ends k) (slice_index ends k)

  abbrev pub stays_within : ℕ → Bool
  stays_within t = all_of (λ w. ltb w.0 (length ends)) (list_of t)

  abbrev pub is_closed : ℕ → Bool
  is_closed t = all_of (λ v. all_of (λ w. among (list_of t) w) (list_of v.0)) (list_of t)

  abbrev pub is_apart : ℕ → Bool
  is_apart t = all_of (λ w. not (among (list_of w.0) (item_at t)) || eqb w.0 t) (list_of t)

  abbrev pub passes : ℕ → Bool
  passes t =
      runs_forward t && (rises (list_of t) && (among (list_of t) (item_at t)
      && (stays_within t && (is_closed t && is_apart t))))

  abbrev pub are_ancestor_lists : Bool
  are_ancestor_lists = eqb (start_of ends (length ends)) (length lists) && all_below (length ends) passes

  module _ (h : are_ancestor_lists ≡ true) where
    passed : (t : ℕ) → t < length ends → passes t ≡ true
    passed = below_all (length ends) passes (and_parts (eqb (start_of ends (length ends)) (length lists)) (all_below (length ends) passes) h).1

    second : (t : ℕ) → t < length ends → (rises (list_of t) && (among (list_of t) (item_at t) && (stays_within t && (is_closed t && is_apart t)))) ≡ true
    second t below = (and_parts (runs_forward t) _ (passed t below)).1

    third : (t : ℕ) → t < length ends → (among (list_of t) (item_at t) && (stays_within t && (is_closed t && is_apart t))) ≡ true
    third t below = (and_parts (rises (list_of t)) _ (second t below)).1

    fourth : (t : ℕ) → t < length ends → (stays_within t && (is_closed t && is_apart t)) ≡ true
    fourth t below = (and_parts (among (list_of t) (item_at t)) _ (third t below)).1

    fifth : (t : ℕ) → t < length ends → (is_closed t && is_apart t) ≡ true
    fifth t below = (and_parts (stays_within t) _ (fourth t below)).1

    closed : (t v w : Item) → Lists ends lists t v → Lists ends lists v w → Lists ends lists t w
    closed t v w first next =
        let at_v = of_all (λ v. all_of (λ w. among (list_of t.0) w) (list_of v.0)) (list_of t.0) (and_parts (is_closed t.0) (is_apart t.0) (fifth t.0 first.0)).0 v first.1 in
        let at_w : among (list_of t.0) w ≡ true = of_all (λ w. among (list_of t.0) w) (list_of v.0) at_v w next.1 in
        (first.0, is_among (list_of t.0) w at_w)

    apart : (t w : Item) → Lists ends lists t w → Lists ends lists w t → w ≡ t
    apart t w up down =
        let at_w = of_all (λ w. not (among (list_of w.0) (item_at t.0)) || eqb w.0 t.0) (list_of t.0) (and_parts (is_closed t.0) (is_apart t.0) (fifth t.0 up.0)).1 w up.1 in
        let same : eqb w.0 t.0 ≡ true = or_other (among (list_of w.0) t) (eqb w.0 t.0) (among_is (list_of w.0) t down.1) at_w in
        Item-same w t (eqb-true w.0 t.0 same)

    tested : AreAncestorLists ends lists
    tested = record {
      cut = record {
        forward = λ k below. leb-true (start_of ends k) (slice_index ends k) (and_parts (runs_forward k) _ (passed k below)).0;
        whole = eqb-true (start_of ends (length ends)) (length lists) (and_parts (eqb (start_of ends (length ends)) (length lists)) (all_below (length ends) passes) h).0;
      };
      rising = λ k below. rise (list_of k) (and_parts (rises (list_of k)) _ (second k below)).0;
      itself = λ t below. (below, is_among (list_of t) (item_at t) (and_parts (among (list_of t) (item_at t)) _ (third t below)).0);
      within = λ t w inside.
          ltb-true w.0 (length ends)
          (of_all (λ w. ltb w.0 (length ends)) (list_of t.0) (and_parts (stays_within t.0) _ (fourth t.0 inside.0)).0 w inside.1);
      closed = closed;
      apart = apart;
    }

  pub AreAncestorLists-tested : are_ancestor_lists ≡ true → AreAncestorLists ends lists
  AreAncestorLists-tested h = tested h
