-- Links under other names: what leads where, cycles and how many ancestors there are stay the same.
use Rattle.std.proofs.Common.{◌≡◌, ◌≢◌, ℕ, ◌<◌, true, false, cond, List, [], ◌∷◌, map, filter, length, get_or, refl, sym, ap, ◌∙◌, subst, arith, nat_le}
use Rattle.std.specs.List.{All, AllPairs, Contains}
use Rattle.std.proofs.lemmas.List.{length-map, get_or_default}
use Rattle.std.proofs.lemmas.List.Elements.{All-contains, All-head, All-tail, All-cons, Contains-get_or}
use Rattle.std.proofs.lemmas.List.Kept.{AllPairs-cons}
use Rattle.mine_model.specs.Hierarchy.{Link, PlacedLink, IsWalk, IsAncestor, HasCycle, links_through, IsCycleLine, HasMoreAncestors}
use Rattle.mine_model.specs.Names.{link_by}
use Rattle.mine_model.proofs.ListLemmas.{Contains-by, Contains-from, AllPairs-head, AllPairs-tail}
use Rattle.mine_model.proofs.NumberingLemmas.{Renames}

-- the same placed link over other things named
abbrev pub placed_by : {A B : Type 0} → (A → B) → PlacedLink A → PlacedLink B
placed_by f placed = record { link = link_by f placed.link; line = placed.line }

module _ {A B : Type 0} (f : A → B) (links : List (Link A)) where
  pub IsWalk-by : (t : A) (steps : List A) (w : A) → IsWalk links t steps w → IsWalk (map (link_by f) links) (f t) (map f steps) (f w)
  IsWalk-by t [] w same = ap f same
  IsWalk-by t (next ∷ steps) w walk =
      (Contains-by (link_by f) links (record { child = t; parent = next }) walk.0, IsWalk-by next steps w walk.1)

  pub IsAncestor-by : (w t : A) → IsAncestor links w t → IsAncestor (map (link_by f) links) (f w) (f t)
  IsAncestor-by w t up = (map f up.0, IsWalk-by t up.0 w up.1)

  pub HasCycle-by : HasCycle links → HasCycle (map (link_by f) links)
  HasCycle-by (t, next, steps, walk) = (f t, f next, map f steps, IsWalk-by t (next ∷ steps) t walk)

  -- the way back, where the named items have different names and the links are between named items
  module _ (P : A → Type 0) (one : (x y : A) → P x → P y → f x ≡ f y → x ≡ y) (named : All (λ l. P l.child × P l.parent) links) where
    linked_from : (t : A) → P t → (next : B) → Contains (map (link_by f) links) (record { child = f t; parent = next })
        → (parent : A) × P parent × (next ≡ f parent) × Contains links (record { child = t; parent = parent })
    linked_from t p next held =
        let (l, inside, same) = Contains-from (link_by f) links (record { child = f t; parent = next }) held in
        let both : P l.child × P l.parent = All-contains (λ l. P l.child × P l.parent) links l named inside in
        let is : l.child ≡ t = one l.child t both.0 p (sym (ap (λ l. l.child) same)) in
        (l.parent, both.1, ap (λ l. l.parent) same, subst (λ t. Contains links (record { child = t; parent = l.parent })) is inside)

    pub IsWalk-from : (t : A) → P t → (steps : List B) (v : B) → IsWalk (map (link_by f) links) (f t) steps v
        → (own : List A) × (w : A) × P w × (v ≡ f w) × (map f own ≡ steps) × IsWalk links t own w
    IsWalk-from t p [] v same = ([], t, p, sym same, refl, refl)
    IsWalk-from t p (next ∷ steps) v walk =
        let (parent, is_named, is, linked) = linked_from t p next walk.0 in
        let (own, w, has, same, steps_are, rest) = IsWalk-from parent is_named steps v (subst (λ next. IsWalk (map (link_by f) links) next steps v) is walk.1) in
        (parent ∷ own, w, has, same, (λ i. sym is i ∷ steps_are i), (linked, rest))

    pub IsAncestor-from : (t : A) → P t → (v : B) → IsAncestor (map (link_by f) links) v (f t) → (w : A) × P w × (v ≡ f w) × IsAncestor links w t
    IsAncestor-from t p v up =
        let (own, w, has, same, steps_are, walk) = IsWalk-from t p up.0 v up.1 in (w, has, same, (own, walk))

    pub IsAncestor-back : (w t : A) → P w → P t → IsAncestor (map (link_by f) links) (f w) (f t) → IsAncestor links w t
    IsAncestor-back w t q p up =
        let (x, has, same, found) = IsAncestor-from t p (f w) up in subst (λ w. IsAncestor links w t) (one x w has q (sym same)) found

    pub ancestor_named : (t : A) (steps : List A) (w : A) → P t → IsWalk links t steps w → P w
    ancestor_named t [] w p same = subst P same p
    ancestor_named t (next ∷ steps) w p walk =
        ancestor_named next steps w (All-contains (λ l. P l.child × P l.parent) links (record { child = t; parent = next }) named walk.0).1 walk.1

    pub renames : Renames links (map (link_by f) links) P f
    renames = record {
      one_to_one = one;
      forth = λ w t q p up. IsAncestor-by w t up;
      back = IsAncestor-back;
      up = λ v t up p. ancestor_named t up.0 v p up.1;
      upward = λ v t p up. let (w, has, same, found) = IsAncestor-from t p v up in (w, has, same);
    }

    cycle_of : (t : A) (next : B) (steps : List B) (own : List A) → map f own ≡ next ∷ steps → IsWalk links t own t → HasCycle links
    cycle_of t next steps [] same walk = absurd (cc)
    cycle_of t next steps (first ∷ rest) same walk = (t, first, rest, walk)

    pub HasCycle-from : HasCycle (map (link_by f) links) → HasCycle links
    HasCycle-from (v, next, steps, walk) =
        let (l, inside, same) = Contains-from (link_by f) links (record { child = v; parent = next }) walk.0 in
        let p : P l.child = (All-contains (λ l. P l.child × P l.parent) links l named inside).0 in
        let is : v ≡ f l.child = ap (λ l. l.child) same in
        let walk' : IsWalk (map (link_by f) links) (f l.child) (next ∷ steps) (f l.child) = subst (λ v. IsWalk (map (link_by f) links) v (next ∷ steps) v) is walk in
        let (own, w, has, same', steps_are, found) = IsWalk-from l.child p (next ∷ steps) (f l.child) walk' in
        cycle_of l.child next steps own steps_are (subst (IsWalk links l.child own) (sym (one l.child w p has same')) found)

-- the links up to a line, under other names
pub links_through-by : {A B : Type 0} (f : A → B) (line : ℕ) (placed : List (PlacedLink A))
    → links_through line (map (placed_by f) placed) ≡ map (link_by f) (links_through line placed)
links_through-by f line [] = refl
links_through-by {A} {B} f line (p ∷ placed) =
    elim (nat_le p.line line) as (λ b. map (λ q. q.link) (cond b (placed_by f p ∷ filter (λ q. nat_le q.line line) (map (placed_by f) placed)) (filter (λ q. nat_le q.line line) (map (placed_by f) placed)))
    ≡ map (link_by f) (map (λ q. q.link) (cond b (p ∷ filter (λ q. nat_le q.line line) placed) (filter (λ q. nat_le q.line line) placed)))) [
      | true ↦ ap (λ w. link_by f p.link ∷ w) (links_through-by f line placed)
      | false ↦ links_through-by f line placed
    ]

module _ {A B : Type 0} (f : A → B) (P : A → Type 0) (one : (x y : A) → P x → P y → f x ≡ f y → x ≡ y) where
  -- the line of the first cycle
  pub IsCycleLine-by : (placed : List (PlacedLink A)) → ((line : ℕ) → All (λ l. P l.child × P l.parent) (links_through line placed))
      → (line : ℕ) → IsCycleLine placed line → IsCycleLine (map (placed_by f) placed) line
  IsCycleLine-by placed named line (cycle, none) = (
    subst HasCycle (sym (links_through-by f line placed)) (HasCycle-by f (links_through line placed) cycle),
    λ earlier less other. none earlier less (HasCycle-from f (links_through earlier placed) P one (named earlier) (subst HasCycle (links_through-by f earlier placed) other)),
  )

  pub IsCycleLine-from : (placed : List (PlacedLink A)) → ((line : ℕ) → All (λ l. P l.child × P l.parent) (links_through line placed))
      → (line : ℕ) → IsCycleLine (map (placed_by f) placed) line → IsCycleLine placed line
  IsCycleLine-from placed named line (cycle, none) = (
    HasCycle-from f (links_through line placed) P one (named line) (subst HasCycle (links_through-by f line placed) cycle),
    λ earlier less own. none earlier less (subst HasCycle (sym (links_through-by f earlier placed)) (HasCycle-by f (links_through earlier placed) own)),
  )

  -- different pairs of named items have different pairs of names
  images_apart : (pairs : List (Link A)) → All (λ p. P p.child × P p.parent) pairs → AllPairs (λ p q. p ≢ q) pairs → AllPairs (λ p q. p ≢ q) (map (link_by f) pairs)
  images_apart [] named apart = λ i j d less within. absurd (omega arith)
  images_apart (p ∷ pairs) named apart =
      let here : P p.child × P p.parent = All-head (λ p. P p.child × P p.parent) p pairs named in
      let rest : All (λ p. P p.child × P p.parent) pairs = All-tail (λ p. P p.child × P p.parent) p pairs named in
      AllPairs-cons (λ p q. p ≢ q) (link_by f p) (map (link_by f) pairs)
      (λ k d below same.
      let (q, held, is) = Contains-from (link_by f) pairs (get_or (map (link_by f) pairs) k d) (k, below, get_or_default (map (link_by f) pairs) k (get_or (map (link_by f) pairs) k d) d below) in
      let there : P q.child × P q.parent = All-contains (λ p. P p.child × P p.parent) pairs q rest held in
      let child : p.child ≡ q.child = one p.child q.child here.0 there.0 (ap (λ l. l.child) (same ∙ is)) in
      let parent : p.parent ≡ q.parent = one p.parent q.parent here.1 there.1 (ap (λ l. l.parent) (same ∙ is)) in
      AllPairs-head (λ p q. p ≢ q) p pairs apart q held (λ i. let made : Link A = record { child = child i; parent = parent i } in made))
      (images_apart pairs rest (AllPairs-tail (λ p q. p ≢ q) p pairs apart))

  -- how many ancestors the named items have
  pub HasMoreAncestors-by : (n : ℕ) (links : List (Link A)) → All (λ l. P l.child × P l.parent) links → HasMoreAncestors n links P
      → HasMoreAncestors n (map (link_by f) links) (λ b. (x : A) × P x × (b ≡ f x))
  HasMoreAncestors-by n links named (pairs, apart, each, more) = (
    map (link_by f) pairs,
    images_apart pairs (λ k d below. let (p, up) = each k d below in (p, ancestor_named f links P one named _ up.0 _ p up.1)) apart,
    (λ k d below.
        let (q, held, is) = Contains-from (link_by f) pairs (get_or (map (link_by f) pairs) k d) (k, below, get_or_default (map (link_by f) pairs) k (get_or (map (link_by f) pairs) k d) d below) in
        let (p, up) = All-contains (λ p. P p.child × IsAncestor links p.parent p.child) pairs q each held in
        subst (λ l. ((x : A) × P x × (l.child ≡ f x)) × IsAncestor (map (link_by f) links) l.parent l.child) (sym is) ((q.child, p, refl), IsAncestor-by f links q.parent q.child up)),
    subst (λ size. n < size) (sym (length-map pairs (link_by f))) more,
  )

  -- elements with different images are different
  apart_of_images : {X Y : Type 0} (g : X → Y) (xs : List X) → AllPairs (λ x y. x ≢ y) (map g xs) → AllPairs (λ x y. x ≢ y) xs
  apart_of_images g [] apart = λ i j d less within. absurd (omega arith)
  apart_of_images g (x ∷ xs) apart =
      AllPairs-cons (λ x y. x ≢ y) x xs
      (λ k d below same. AllPairs-head (λ x y. x ≢ y) (g x) (map g xs) apart (g (get_or xs k d)) (Contains-by g xs (get_or xs k d) (Contains-get_or xs k d below)) (ap g same))
      (apart_of_images g xs (AllPairs-tail (λ x y. x ≢ y) (g x) (map g xs) apart))

  -- pairs of names are the names of pairs
  pairs_from : (links : List (Link A)) → All (λ l. P l.child × P l.parent) links → (pairs : List (Link B))
      → All (λ p. ((x : A) × P x × (p.child ≡ f x)) × IsAncestor (map (link_by f) links) p.parent p.child) pairs
      → (own : List (Link A)) × (map (link_by f) own ≡ pairs) × All (λ p. P p.child × IsAncestor links p.parent p.child) own
  pairs_from links named [] each = ([], refl, (λ k d below. absurd (omega arith)))
  pairs_from links named (p ∷ pairs) each =
      let Each : Link B → Type 0 = λ p. ((x : A) × P x × (p.child ≡ f x)) × IsAncestor (map (link_by f) links) p.parent p.child in
      let ((x, has, is), up) = All-head Each p pairs each in
      let (w, has', same, found) = IsAncestor-from f links P one named x has p.parent (subst (IsAncestor (map (link_by f) links) p.parent) is up) in
      let (own, images, sound) = pairs_from links named pairs (All-tail Each p pairs each) in
      let made : Link A = record { child = x; parent = w } in (
        made ∷ own,
        (λ i. (let image : Link B = record { child = sym is i; parent = sym same i } in image) ∷ images i),
        All-cons (λ p. P p.child × IsAncestor links p.parent p.child) made own (has, found) sound,
      )

  pub HasMoreAncestors-from : (n : ℕ) (links : List (Link A)) → All (λ l. P l.child × P l.parent) links
      → HasMoreAncestors n (map (link_by f) links) (λ b. (x : A) × P x × (b ≡ f x)) → HasMoreAncestors n links P
  HasMoreAncestors-from n links named (pairs, apart, each, more) =
      let (own, images, sound) = pairs_from links named pairs each in (
        own,
        apart_of_images (link_by f) own (subst (AllPairs (λ p q. p ≢ q)) (sym images) apart),
        sound,
        subst (λ size. n < size) (sym (ap (λ l. length l) images) ∙ length-map own (link_by f)) more,
      )
