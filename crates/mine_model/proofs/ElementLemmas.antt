-- Elements of a list, and of a list of pieces.
use Rattle.std.proofs.Common.{◌≡◌, ◌≢◌, ℕ, zero, suc, ◌+◌, ◌<◌, ◌⊎◌, inl, inr, Some, List, [], ◌∷◌, ◌++◌, slice_get, set, map, length, refl, ap, ◌∙◌, subst, arith, sum_by, Contains, flat_map, Option, Bool, true, sym, take, ◌==◌, nat_eq}
use Rattle.mine_model.proofs.ListLemmas.{Contains-cases, Contains-first, Contains-other, Contains-none}
use Rattle.std.proofs.lemmas.List.Elements.{Contains-append_left, Contains-append_right, Contains-append_cases}
use Rattle.std.proofs.lemmas.List.Sums.{sum_by-append}
use Rattle.std.proofs.lemmas.Option.{slice_get-map, same_Some, slice_get-get_or, slice_get_within, get_or_from_slice_get}
use Rattle.std.specs.List.{list_any}
use Rattle.std.proofs.lemmas.List.{take_more}
use Rattle.std.proofs.lemmas.List.Folds.{Any-from_list_any}
use Rattle.std.proofs.lemmas.Bool.{eqb-true}
use Rattle.std.specs.Bool.{Decides}
use Rattle.std.specs.Cmp.Lexicographic.{pointwise}
use Rattle.std.proofs.lemmas.Bool.Decides.{Decides-eqb}
use Rattle.std.proofs.lemmas.Slice.Eq.{slice_eq-Decides}

pub get-some : {X : Type 0} (xs : List X) (i : ℕ) → i < length xs → (x : X) × (slice_get xs i ≡ Some x)
get-some [] i l = absurd (omega arith)
get-some (x ∷ xs) zero l = (x, refl)
get-some (x ∷ xs) (suc i) l = get-some xs i (omega arith)

pub get-held : {X : Type 0} (xs : List X) (i : ℕ) (x : X) → slice_get xs i ≡ Some x → Contains xs x
get-held [] i x is = absurd (cc)
get-held (y ∷ xs) zero x is = let same : y ≡ x = cc in subst (Contains (y ∷ xs)) same (Contains-first y xs)
get-held (y ∷ xs) (suc i) x is = Contains-other y xs x (get-held xs i x is)

-- where an element of a list stands
pub get-place : {X : Type 0} (xs : List X) (x : X) → Contains xs x → (k : ℕ) × (slice_get xs k ≡ Some x)
get-place xs x (k, below, is) = (k, slice_get-get_or xs k x below ∙ ap (λ y. Some y) is)

-- lists that are equal have one first element
pub first-same : {X : Type 0} (x y : X) (xs ys : List X) → x ∷ xs ≡ y ∷ ys → x ≡ y
first-same x y xs ys same = cc

-- a place has one element
pub same-some : {X : Type 0} (x y : X) (o : Option X) → o ≡ Some x → o ≡ Some y → x ≡ y
same-some x y o p q = cc

-- what stands in the front of a list stands there in the whole list
pub get-left : {X : Type 0} (xs ys : List X) (i : ℕ) (x : X) → slice_get xs i ≡ Some x → slice_get (xs ++ ys) i ≡ Some x
get-left [] ys i x is = absurd (cc)
get-left (y ∷ xs) ys zero x is = is
get-left (y ∷ xs) ys (suc i) x is = get-left xs ys i x is

-- what stands in a mapped list
pub slice_get-mapped_by : {X Y : Type 0} (f : X → Y) (xs : List X) (i : ℕ) (x : X) → slice_get xs i ≡ Some x → slice_get (map f xs) i ≡ Some (f x)
slice_get-mapped_by f xs i x found = slice_get-map f xs i ∙ (rw found refl)

-- what stands in a mapped list is the image of what stands there
pub get-from : {X Y : Type 0} (f : X → Y) (xs : List X) (k : ℕ) (y : Y) → slice_get (map f xs) k ≡ Some y → (x : X) × (slice_get xs k ≡ Some x) × (y ≡ f x)
get-from f [] k y at = absurd (cc)
get-from f (x ∷ xs) zero y at = (x, refl, sym (same_Some (f x) y at))
get-from f (x ∷ xs) (suc k) y at = get-from f xs k y at

-- what stands in a list after one element changed
pub get_set_same : {X : Type 0} (xs : List X) (i : ℕ) (x y : X) → slice_get xs i ≡ Some x → slice_get (set xs i y) i ≡ Some y
get_set_same [] i x y e = absurd (cc)
get_set_same (z ∷ xs) zero x y e = refl
get_set_same (z ∷ xs) (suc i) x y e = get_set_same xs i x y e

pub get_set_other : {X : Type 0} (xs : List X) (i k : ℕ) (y : X) → k ≢ i → slice_get (set xs i y) k ≡ slice_get xs k
get_set_other [] i k y other = refl
get_set_other (z ∷ xs) zero zero y other = absurd (other refl)
get_set_other (z ∷ xs) zero (suc k) y other = refl
get_set_other (z ∷ xs) (suc i) zero y other = refl
get_set_other (z ∷ xs) (suc i) (suc k) y other = get_set_other xs i k y (λ e. other (ap suc e))

-- what stands in a list that is longer by one
pub get_snoc : {X : Type 0} (xs : List X) (y : X) (k : ℕ) (z : X) → slice_get (xs ++ y ∷ []) k ≡ Some z → (slice_get xs k ≡ Some z) ⊎ ((k ≡ length xs) × (y ≡ z))
get_snoc [] y zero z e = inr (refl, cc)
get_snoc [] y (suc k) z e = absurd (cc)
get_snoc (x ∷ xs) y zero z e = inl e
get_snoc (x ∷ xs) y (suc k) z e = elim (get_snoc xs y k z e) [ inl t ↦ inl t | inr t ↦ inr (ap suc t.0, t.1) ]

pub get_last : {X : Type 0} (xs : List X) (y : X) → slice_get (xs ++ y ∷ []) (length xs) ≡ Some y
get_last [] y = refl
get_last (x ∷ xs) y = get_last xs y

pub stands_last : {X : Type 0} (xs : List X) (y : X) (number : ℕ) → number ≡ length xs → slice_get (xs ++ y ∷ []) number ≡ Some y
stands_last xs y number is = ap (slice_get (xs ++ y ∷ [])) is ∙ get_last xs y

-- one more of a list
pub take-next : {X : Type 0} (xs : List X) (i : ℕ) (x : X) → slice_get xs i ≡ Some x → take (i + 1) xs ≡ take i xs ++ x ∷ []
take-next xs i x at = take_more xs i x (slice_get_within xs i x at) ∙ ap (λ y. take i xs ++ y ∷ []) (get_or_from_slice_get xs i x x at)

-- the test passes at an element
pub any-held : {X : Type 0} (test : X → Bool) (xs : List X) → list_any test xs ≡ true → (x : X) × Contains xs x × (test x ≡ true)
any-held test xs passes = let (k, x, below, at, is) = Any-from_list_any test xs passes in (x, (k, below, at), is)

-- the number is among them
pub among-held : (number : ℕ) (numbers : List ℕ) → list_any (λ other. other == number) numbers ≡ true → Contains numbers number
among-held number numbers any = let (other, held, is) = any-held (λ other. other == number) numbers any in subst (Contains numbers) (eqb-true other number is) held

-- an element of the pieces is one of a piece
pub flat-cases : {X Y : Type 0} (f : X → List Y) (xs : List X) (y : Y) → Contains (flat_map f xs) y → (x : X) × Contains xs x × Contains (f x) y
flat-cases f [] y is = absurd (Contains-none y is)
flat-cases f (x ∷ xs) y is = elim (Contains-append_cases (f x) (flat_map f xs) y is) [
  | inl here ↦ (x, Contains-first x xs, here)
  | inr there ↦ let (z, held, part) = flat-cases f xs y there in (z, Contains-other x xs z held, part)
]

pub flat-held : {X Y : Type 0} (f : X → List Y) (xs : List X) (x : X) (y : Y) → Contains xs x → Contains (f x) y → Contains (flat_map f xs) y
flat-held f [] x y held part = absurd (Contains-none x held)
flat-held f (z ∷ xs) x y held part = elim (Contains-cases z xs x held) [
  | inl here ↦ Contains-append_left (f z) (flat_map f xs) y (subst (λ v. Contains (f v) y) here part)
  | inr there ↦ Contains-append_right (f z) (flat_map f xs) y (flat-held f xs x y there part)
]

-- what all pieces weigh after one of them changed
pub flat_map_set : {X Y : Type 0} (f : X → List Y) (weight : Y → ℕ) (xs : List X) (i : ℕ) (x y : X) → slice_get xs i ≡ Some x
    → sum_by weight (flat_map f (set xs i y)) + sum_by weight (f x) ≡ sum_by weight (flat_map f xs) + sum_by weight (f y)
flat_map_set f weight [] i x y e = absurd (cc)
flat_map_set f weight (z ∷ xs) zero x y e = let is : z ≡ x = cc in let same : sum_by weight (f z) ≡ sum_by weight (f x) = ap (λ a. sum_by weight (f a)) is in
    omega (arith, sum_by-append weight (f z) (flat_map f xs), sum_by-append weight (f y) (flat_map f xs))
flat_map_set f weight (z ∷ xs) (suc i) x y e =
    omega (arith, sum_by-append weight (f z) (flat_map f xs), sum_by-append weight (f z) (flat_map f (set xs i y)), flat_map_set f weight xs i x y e)

pub no_members : {X : Type 0} (xs : List X) → ((x : X) → Contains xs x → ⊥) → xs ≡ []
no_members [] none = refl
no_members (x ∷ xs) none = absurd (none x (Contains-first x xs))

-- the test of two lists of numbers tells whether they are equal
pub decides : (xs ys : List ℕ) → Decides (pointwise nat_eq xs ys) (xs ≡ ys)
decides xs ys = slice_eq-Decides Decides-eqb xs ys (pointwise nat_eq xs ys) refl
