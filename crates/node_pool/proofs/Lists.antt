-- Lists read by `slice_get`, after one element changed.
use Rattle.std.proofs.Common.{◌≡◌, ◌≢◌, ℕ, zero, suc, ◌⊎◌, inl, inr, List, [], ◌∷◌, ◌++◌, set, sym, refl, ap, ◌∙◌, arith, map, length, subst, Some, flat_map, slice_get}
use Rattle.std.proofs.lemmas.Option.{same_Some}
use Rattle.mine_model.proofs.ElementLemmas.{get-left, get_snoc, get_last}

module _ {X : Type 0} where
  pub get_set : (xs : List X) (i : ℕ) (y : X) (k : ℕ) (z : X) → slice_get (set xs i y) k ≡ Some z → ((k ≡ i) × (y ≡ z)) ⊎ ((k ≢ i) × (slice_get xs k ≡ Some z))
  get_set [] i y k z e = absurd (cc)
  get_set (x ∷ xs) zero y zero z e = inl (refl, cc)
  get_set (x ∷ xs) zero y (suc k) z e = inr ((λ h. omega arith), e)
  get_set (x ∷ xs) (suc i) y zero z e = inr ((λ h. omega arith), e)
  get_set (x ∷ xs) (suc i) y (suc k) z e = elim (get_set xs i y k z e) [ inl t ↦ inl (ap suc t.0, t.1) | inr t ↦ inr ((λ h. t.0 (omega arith)), t.1) ]

  -- a change that f does not see
  pub map_kept : {Y : Type 0} (f : X → Y) (xs : List X) (i : ℕ) (x y : X) → slice_get xs i ≡ Some x → f y ≡ f x → map f (set xs i y) ≡ map f xs
  map_kept f [] i x y e same = refl
  map_kept f (z ∷ xs) zero x y e same = let is : z ≡ x = cc in ap (λ a. a ∷ map f xs) (same ∙ ap f (sym is))
  map_kept f (z ∷ xs) (suc i) x y e same = ap (λ a. f z ∷ a) (map_kept f xs i x y e same)

  pub flat_map_kept : {Y : Type 0} (f : X → List Y) (xs : List X) (i : ℕ) (x y : X) → slice_get xs i ≡ Some x → f y ≡ f x → flat_map f (set xs i y) ≡ flat_map f xs
  flat_map_kept f [] i x y e same = refl
  flat_map_kept f (z ∷ xs) zero x y e same = let is : z ≡ x = cc in ap (λ a. a ++ flat_map f xs) (same ∙ ap f (sym is))
  flat_map_kept f (z ∷ xs) (suc i) x y e same = ap (λ a. f z ++ a) (flat_map_kept f xs i x y e same)

  -- what holds of each element, at its index
  abbrev pub Everywhere : (ℕ → X → Type 0) → List X → Type 0
  Everywhere F xs = (k : ℕ) (x : X) → slice_get xs k ≡ Some x → F k x

  pub everywhere_snoc : (F : ℕ → X → Type 0) (xs : List X) (y : X) → Everywhere F xs → F (length xs) y → Everywhere F (xs ++ y ∷ [])
  everywhere_snoc F xs y old new k z e = elim (get_snoc xs y k z e) [ inl t ↦ old k z t | inr t ↦ subst (λ (p : ℕ × X). F p.0 p.1) (λ i. (sym t.0 i, t.1 i)) new ]

  pub everywhere_set : (F G : ℕ → X → Type 0) (xs : List X) (i : ℕ) (y : X) → Everywhere F xs → G i y → ((k : ℕ) (x : X) → k ≢ i → F k x → G k x) → Everywhere G (set xs i y)
  everywhere_set F G xs i y old new others k z e = elim (get_set xs i y k z e) [ inl t ↦ subst (λ (p : ℕ × X). G p.0 p.1) (λ j. (sym t.0 j, t.1 j)) new | inr t ↦ others k z t.0 (old k z t.1) ]

  -- what holds of each element holds of a list's front
  pub everywhere_front : (F : ℕ → X → Type 0) (xs : List X) (y : X) → Everywhere F (xs ++ y ∷ []) → Everywhere F xs × F (length xs) y
  everywhere_front F xs y all = ((λ k z e. all k z (get-left xs (y ∷ []) k z e)), all (length xs) y (get_last xs y))

  -- lists of one length that agree at each index
  pub same_lists : (xs ys : List X) → length xs ≡ length ys → ((k : ℕ) (x : X) → slice_get xs k ≡ Some x → slice_get ys k ≡ Some x) → xs ≡ ys
  same_lists [] [] n all = refl
  same_lists [] (y ∷ ys) n all = absurd (omega arith)
  same_lists (x ∷ xs) [] n all = absurd (omega arith)
  same_lists (x ∷ xs) (y ∷ ys) n all = let is : y ≡ x = same_Some y x (all 0 x refl) in ap (λ a. a ∷ xs) (sym is) ∙ ap (λ l. y ∷ l) (same_lists xs ys (omega arith) (λ k. all (suc k)))

  -- where an element of a mapped list comes from
  pub get_map : {Y : Type 0} (f : X → Y) (xs : List X) (k : ℕ) (y : Y) → slice_get (map f xs) k ≡ Some y → (x : X) × (slice_get xs k ≡ Some x) × (f x ≡ y)
  get_map f [] k y e = absurd (cc)
  get_map f (x ∷ xs) zero y e = (x, refl, cc)
  get_map f (x ∷ xs) (suc k) y e = get_map f xs k y e
