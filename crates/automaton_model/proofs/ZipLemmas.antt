-- Two lists whose elements belong together, place by place.
use Rattle.std.proofs.Common.{◌≡◌, ℕ, zero, suc, inl, inr, Some, List, [], ◌∷◌, refl, sym, subst}
use Rattle.std.specs.List.{AllZip, Contains, slice_get}
use Rattle.mine_model.proofs.ListLemmas.{Contains-cases, Contains-first, Contains-other, Contains-none}

module _ {X Y : Type 0} (R : X → Y → Type 0) where
  pub zip-there : (xs : List X) (ys : List Y) → AllZip R xs ys → (k : ℕ) (x : X) → slice_get xs k ≡ Some x → (y : Y) × (slice_get ys k ≡ Some y) × R x y
  zip-there [] ys all k x is = absurd (cc)
  zip-there (z ∷ xs) [] all k x is = absurd all
  zip-there (z ∷ xs) (y ∷ ys) all zero x is = let same : z ≡ x = cc in (y, refl, subst (λ v. R v y) same all.0)
  zip-there (z ∷ xs) (y ∷ ys) all (suc k) x is = zip-there xs ys all.1 k x is

  -- what belongs to an element of the first list
  pub zip-first : (xs : List X) (ys : List Y) → AllZip R xs ys → (x : X) → Contains xs x → (y : Y) × Contains ys y × R x y
  zip-first [] ys zip x held = absurd (Contains-none x held)
  zip-first (z ∷ xs) [] zip x held = absurd zip
  zip-first (z ∷ xs) (y ∷ ys) zip x held = elim (Contains-cases z xs x held) [
    | inl same ↦ (y, Contains-first y ys, subst (λ (v : X). R v y) (sym same) zip.0)
    | inr later ↦ (let (w, inside, is) = zip-first xs ys zip.1 x later in (w, Contains-other y ys w inside, is))
  ]

  -- what an element of the second list belongs to
  pub zip-second : (xs : List X) (ys : List Y) → AllZip R xs ys → (y : Y) → Contains ys y → (x : X) × Contains xs x × R x y
  zip-second [] [] zip y held = absurd (Contains-none y held)
  zip-second [] (w ∷ ys) zip y held = absurd zip
  zip-second (x ∷ xs) [] zip y held = absurd zip
  zip-second (x ∷ xs) (w ∷ ys) zip y held = elim (Contains-cases w ys y held) [
    | inl same ↦ (x, Contains-first x xs, subst (R x) (sym same) zip.0)
    | inr later ↦ (let (z, inside, is) = zip-second xs ys zip.1 y later in (z, Contains-other x xs z inside, is))
  ]
