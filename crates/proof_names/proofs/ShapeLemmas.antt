-- Shapes of expressions over other things named: positions stay as they are.
use Rattle.std.proofs.Common.{◌≡◌, ℕ, zero, suc, ◌+◌, ◌⊎◌, inl, inr, ◌↔◌, Bool, true, Option, Some, None, ◌++◌, map, refl, sym, ap, ◌∙◌, subst}
use Rattle.std.specs.List.{AllByRecursion}
use Rattle.std.proofs.lemmas.List.{map-append}
use Rattle.mine_model.specs.Expression.{Tree, leaf, cat, alt, rep, cap, named_by, named_in, leaf_by, tree_by}
use Rattle.mine_model.proofs.ListLemmas.{front_of_both, back_of_both, of_both}
use Rattle.fst_compile.specs.Shape.{ShapeOf, one, nothing, never, both, either, maybe, more, EntryOf, labels_of, up_to, between, at_least, repeated, unfold_tree}
use Rattle.fst_compile.specs.Positions.{size, CanBeEmpty, First, Last, Follows}
use Rattle.pattern_proof.specs.Runs.{MayComeNext, MayEnd}

abbrev pub shape_by : {A B : Type 0} → (A → B) → ShapeOf A → ShapeOf B
shape_by f (one l captured) = one (leaf_by f l) captured
shape_by f nothing = nothing
shape_by f never = never
shape_by f (both a b) = both (shape_by f a) (shape_by f b)
shape_by f (either a b) = either (shape_by f a) (shape_by f b)
shape_by f (maybe a) = maybe (shape_by f a)
shape_by f (more a) = more (shape_by f a)

abbrev pub entry_by : {A B : Type 0} → (A → B) → EntryOf A → EntryOf B
entry_by f entry = record { leaf = leaf_by f entry.leaf; captured = entry.captured }

alike : {X : Type 0} → X ↔ X
alike = ((λ x. x), (λ x. x))

one_of : {X Y Z W : Type 0} → (X ↔ Y) → (Z ↔ W) → (X ⊎ Z) ↔ (Y ⊎ W)
one_of first second = (
  (λ s. elim s [ inl x ↦ inl (first.0 x) | inr z ↦ inr (second.0 z) ]),
  (λ s. elim s [ inl y ↦ inl (first.1 y) | inr w ↦ inr (second.1 w) ]),
)

pair_of : {X Y Z W : Type 0} → (X ↔ Y) → (Z ↔ W) → (X × Z) ↔ (Y × W)
pair_of first second = ((λ p. (first.0 p.0, second.0 p.1)), (λ p. (first.1 p.0, second.1 p.1)))

module _ {A B : Type 0} (f : A → B) where
  size-by : (s : ShapeOf A) → size (shape_by f s) ≡ size s
  size-by (one l captured) = refl
  size-by nothing = refl
  size-by never = refl
  size-by (both a b) = λ i. size-by a i + size-by b i
  size-by (either a b) = λ i. size-by a i + size-by b i
  size-by (maybe a) = size-by a
  size-by (more a) = size-by a

  empty-by : (s : ShapeOf A) → CanBeEmpty s ↔ CanBeEmpty (shape_by f s)
  empty-by (one l captured) = alike
  empty-by nothing = alike
  empty-by never = alike
  empty-by (both a b) = pair_of (empty-by a) (empty-by b)
  empty-by (either a b) = one_of (empty-by a) (empty-by b)
  empty-by (maybe a) = alike
  empty-by (more a) = empty-by a

  first-by : (s : ShapeOf A) (o k : ℕ) → First s o k ↔ First (shape_by f s) o k
  first-by (one l captured) o k = alike
  first-by nothing o k = alike
  first-by never o k = alike
  first-by (both a b) o k = one_of (first-by a o k) (pair_of (empty-by a)
      (subst (λ n. First b (o + size a) k ↔ First (shape_by f b) (o + n) k) (sym (size-by a)) (first-by b (o + size a) k)))
  first-by (either a b) o k = one_of (first-by a o k)
      (subst (λ n. First b (o + size a) k ↔ First (shape_by f b) (o + n) k) (sym (size-by a)) (first-by b (o + size a) k))
  first-by (maybe a) o k = first-by a o k
  first-by (more a) o k = first-by a o k

  last-by : (s : ShapeOf A) (o k : ℕ) → Last s o k ↔ Last (shape_by f s) o k
  last-by (one l captured) o k = alike
  last-by nothing o k = alike
  last-by never o k = alike
  last-by (both a b) o k = one_of
      (subst (λ n. Last b (o + size a) k ↔ Last (shape_by f b) (o + n) k) (sym (size-by a)) (last-by b (o + size a) k))
      (pair_of (empty-by b) (last-by a o k))
  last-by (either a b) o k = one_of (last-by a o k)
      (subst (λ n. Last b (o + size a) k ↔ Last (shape_by f b) (o + n) k) (sym (size-by a)) (last-by b (o + size a) k))
  last-by (maybe a) o k = last-by a o k
  last-by (more a) o k = last-by a o k

  follows-by : (s : ShapeOf A) (o j k : ℕ) → Follows s o j k ↔ Follows (shape_by f s) o j k
  follows-by (one l captured) o j k = alike
  follows-by nothing o j k = alike
  follows-by never o j k = alike
  follows-by (both a b) o j k = one_of (follows-by a o j k) (one_of
      (subst (λ n. Follows b (o + size a) j k ↔ Follows (shape_by f b) (o + n) j k) (sym (size-by a)) (follows-by b (o + size a) j k))
      (pair_of (last-by a o j)
      (subst (λ n. First b (o + size a) k ↔ First (shape_by f b) (o + n) k) (sym (size-by a)) (first-by b (o + size a) k))))
  follows-by (either a b) o j k = one_of (follows-by a o j k)
      (subst (λ n. Follows b (o + size a) j k ↔ Follows (shape_by f b) (o + n) j k) (sym (size-by a)) (follows-by b (o + size a) j k))
  follows-by (maybe a) o j k = follows-by a o j k
  follows-by (more a) o j k = one_of (follows-by a o j k) (pair_of (last-by a o j) (first-by a o k))

  pub next-by : (s : ShapeOf A) (at next : ℕ) → MayComeNext s at next ↔ MayComeNext (shape_by f s) at next
  next-by s at next = one_of (pair_of alike (first-by s 1 next)) (follows-by s 1 at next)

  pub end-by : (s : ShapeOf A) (at : ℕ) → MayEnd s at ↔ MayEnd (shape_by f s) at
  end-by s at = one_of (pair_of alike (empty-by s)) (last-by s 1 at)

  pub labels-by : (s : ShapeOf A) → labels_of (shape_by f s) ≡ map (entry_by f) (labels_of s)
  labels-by (one l captured) = refl
  labels-by nothing = refl
  labels-by never = refl
  labels-by (both a b) = (λ i. labels-by a i ++ labels-by b i) ∙ sym (map-append (entry_by f) (labels_of a) (labels_of b))
  labels-by (either a b) = (λ i. labels-by a i ++ labels-by b i) ∙ sym (map-append (entry_by f) (labels_of a) (labels_of b))
  labels-by (maybe a) = labels-by a
  labels-by (more a) = labels-by a

  -- Repetitions written out

  up_to-by : (n : ℕ) (s : ShapeOf A) → up_to n (shape_by f s) ≡ shape_by f (up_to n s)
  up_to-by zero s = refl
  up_to-by (suc n) s = ap (λ r. maybe (both (shape_by f s) r)) (up_to-by n s)

  between-by : (n m : ℕ) (s : ShapeOf A) → between n m (shape_by f s) ≡ shape_by f (between n m s)
  between-by zero m s = up_to-by m s
  between-by (suc n) zero s = refl
  between-by (suc n) (suc m) s = ap (λ r. both (shape_by f s) r) (between-by n m s)

  at_least-by : (n : ℕ) (s : ShapeOf A) → at_least n (shape_by f s) ≡ shape_by f (at_least n s)
  at_least-by zero s = refl
  at_least-by (suc zero) s = refl
  at_least-by (suc (suc n)) s = ap (λ r. both (shape_by f s) r) (at_least-by (suc n) s)

  repeated-by : (s : ShapeOf A) (least : ℕ) (most : Option ℕ) → repeated (shape_by f s) least most ≡ shape_by f (repeated s least most)
  repeated-by s least (Some most) = between-by least most s
  repeated-by s least None = at_least-by least s

  pub unfold-by : (tree : Tree A) (captured : Bool) → unfold_tree (tree_by f tree) captured ≡ shape_by f (unfold_tree tree captured)
  unfold-by (leaf l) captured = refl
  unfold-by (cat left right) captured = λ i. both (unfold-by left captured i) (unfold-by right captured i)
  unfold-by (alt left right) captured = λ i. either (unfold-by left captured i) (unfold-by right captured i)
  unfold-by (rep inner least most) captured =
      ap (λ s. repeated s least most) (unfold-by inner captured) ∙ repeated-by (unfold_tree inner captured) least most
  unfold-by (cap inner) captured = unfold-by inner true

-- What the item expressions name, with the repetitions written out
module _ {A : Type 0} (Q : EntryOf A → Type 0) where
  up_to-all : (n : ℕ) (s : ShapeOf A) → AllByRecursion Q (labels_of s) → AllByRecursion Q (labels_of (up_to n s))
  up_to-all zero s all = tt
  up_to-all (suc n) s all = of_both Q (labels_of s) (labels_of (up_to n s)) all (up_to-all n s all)

  between-all : (n m : ℕ) (s : ShapeOf A) → AllByRecursion Q (labels_of s) → AllByRecursion Q (labels_of (between n m s))
  between-all zero m s all = up_to-all m s all
  between-all (suc n) zero s all = tt
  between-all (suc n) (suc m) s all = of_both Q (labels_of s) (labels_of (between n m s)) all (between-all n m s all)

  at_least-all : (n : ℕ) (s : ShapeOf A) → AllByRecursion Q (labels_of s) → AllByRecursion Q (labels_of (at_least n s))
  at_least-all zero s all = all
  at_least-all (suc zero) s all = all
  at_least-all (suc (suc n)) s all = of_both Q (labels_of s) (labels_of (at_least (suc n) s)) all (at_least-all (suc n) s all)

  repeated-all : (s : ShapeOf A) (least : ℕ) (most : Option ℕ) → AllByRecursion Q (labels_of s) → AllByRecursion Q (labels_of (repeated s least most))
  repeated-all s least (Some most) all = between-all least most s all
  repeated-all s least None all = at_least-all least s all

-- the item expressions name things that P holds of
abbrev pub AreLabelsOf : {A : Type 0} → (A → Type 0) → ShapeOf A → Type 0
AreLabelsOf {A} P s = AllByRecursion (λ (entry : EntryOf A). AllByRecursion P (named_by entry.leaf)) (labels_of s)

pub unfold-named : {A : Type 0} (P : A → Type 0) (tree : Tree A) (captured : Bool) → AllByRecursion P (named_in tree) → AreLabelsOf P (unfold_tree tree captured)
unfold-named P (leaf l) captured named = (named, tt)
unfold-named {A} P (cat left right) captured named =
    of_both (λ (entry : EntryOf A). AllByRecursion P (named_by entry.leaf)) (labels_of (unfold_tree left captured)) (labels_of (unfold_tree right captured))
    (unfold-named P left captured (front_of_both P (named_in left) (named_in right) named)) (unfold-named P right captured (back_of_both P (named_in left) (named_in right) named))
unfold-named {A} P (alt left right) captured named =
    of_both (λ (entry : EntryOf A). AllByRecursion P (named_by entry.leaf)) (labels_of (unfold_tree left captured)) (labels_of (unfold_tree right captured))
    (unfold-named P left captured (front_of_both P (named_in left) (named_in right) named)) (unfold-named P right captured (back_of_both P (named_in left) (named_in right) named))
unfold-named {A} P (rep inner least most) captured named =
    repeated-all (λ (entry : EntryOf A). AllByRecursion P (named_by entry.leaf)) (unfold_tree inner captured) least most (unfold-named P inner captured named)
unfold-named P (cap inner) captured named = unfold-named P inner true named
