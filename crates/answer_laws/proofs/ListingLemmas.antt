-- What is decided, and the things with a property as a list.
use Rattle.std.proofs.Common.{◌≡◌, ◌⊎◌, ◌↔◌, inl, inr, ℕ, zero, suc, ◌≤◌, List, [], ◌∷◌, ◌++◌, refl, sym, subst, arith, Contains, flat_map}
use Rattle.std.proofs.lemmas.Bool.{cases_lt}
use Rattle.std.proofs.lemmas.List.Elements.{Contains-append_left, Contains-append_right, Contains-append_cases}
use Rattle.mine_model.proofs.ListLemmas.{Contains-cases, Contains-first, Contains-other, Contains-none}
use Rattle.mine_model.proofs.ElementLemmas.{flat-cases, flat-held}

-- it holds, or it does not
abbrev pub Decided : Type 0 → Type 0
Decided P = P ⊎ (P → ⊥)

pub decided-not : (P : Type 0) → Decided P → Decided (P → ⊥)
decided-not P (inl p) = inr (λ never. never p)
decided-not P (inr never) = inl never

pub decided-both : (P Q : Type 0) → Decided P → Decided Q → Decided (P × Q)
decided-both P Q (inl p) (inl q) = inl (p, q)
decided-both P Q (inl p) (inr never) = inr (λ both. never both.1)
decided-both P Q (inr never) q = inr (λ both. never both.0)

pub decided-like : (P Q : Type 0) → (P → Q) → (Q → P) → Decided P → Decided Q
decided-like P Q forth back (inl p) = inl (forth p)
decided-like P Q forth back (inr never) = inr (λ q. never (back q))

-- two of the things are the same, or they are not
abbrev pub IsDiscrete : Type 0 → Type 0
IsDiscrete X = (x y : X) → Decided (x ≡ y)

pub lists-discrete : (X : Type 0) → IsDiscrete X → IsDiscrete (List X)
lists-discrete X discrete [] [] = inl refl
lists-discrete X discrete [] (y ∷ ys) = inr (λ e. absurd (cc))
lists-discrete X discrete (x ∷ xs) [] = inr (λ e. absurd (cc))
lists-discrete X discrete (x ∷ xs) (y ∷ ys) = decided-like ((x ≡ y) × (xs ≡ ys)) (x ∷ xs ≡ y ∷ ys)
    (λ both i. both.0 i ∷ both.1 i) (λ e. (cc, cc))
    (decided-both (x ≡ y) (xs ≡ ys) (discrete x y) (lists-discrete X discrete xs ys))

pub decided-contained : {X : Type 0} → IsDiscrete X → (xs : List X) (y : X) → Decided (Contains xs y)
decided-contained discrete [] y = inr (λ held. Contains-none y held)
decided-contained discrete (x ∷ xs) y = decided-like ((y ≡ x) ⊎ Contains xs y) (Contains (x ∷ xs) y)
    (λ either. elim either [ inl same ↦ subst (Contains (x ∷ xs)) (sym same) (Contains-first x xs) | inr later ↦ Contains-other x xs y later ])
    (λ held. Contains-cases x xs y held)
    (by (discrete y x) (decided-contained discrete xs y))
  where
    by : Decided (y ≡ x) → Decided (Contains xs y) → Decided ((y ≡ x) ⊎ Contains xs y)
    by (inl same) later = inl (inl same)
    by (inr apart) (inl later) = inl (inr later)
    by (inr apart) (inr none) = inr (λ either. elim either [ inl same ↦ apart same | inr later ↦ none later ])

-- a list of exactly the things that have the property
pub record Listing {X : Type 0} (P : X → Type 0) : Type 0 where
  pub things : List X
  pub exact : (x : X) → Contains things x ↔ P x

pub listing-decides : {X : Type 0} → IsDiscrete X → (P : X → Type 0) → Listing P → (x : X) → Decided (P x)
listing-decides discrete P listing x =
    decided-like (Contains listing.things x) (P x) (listing.exact x).0 (listing.exact x).1 (decided-contained discrete listing.things x)

pub listing-like : {X : Type 0} (P Q : X → Type 0) → ((x : X) → P x → Q x) → ((x : X) → Q x → P x) → Listing P → Listing Q
listing-like P Q forth back listing = record {
  things = listing.things;
  exact = λ x. (λ held. forth x ((listing.exact x).0 held), λ q. (listing.exact x).1 (back x q));
}

pub listing-none : {X : Type 0} (P : X → Type 0) → ((x : X) → P x → ⊥) → Listing P
listing-none P none = record {
  things = [];
  exact = λ x. (λ held. absurd (Contains-none x held), λ p. absurd (none x p));
}

pub listing-one : {X : Type 0} (y : X) → Listing (λ x. x ≡ y)
listing-one y = record {
  things = y ∷ [];
  exact = λ x. (
    λ held. elim (Contains-cases y [] x held) [ inl same ↦ same | inr none ↦ absurd (Contains-none x none) ],
    λ same. subst (Contains (y ∷ [])) (sym same) (Contains-first y []),
  );
}

pub listing-list : {X : Type 0} (xs : List X) → Listing (Contains xs)
listing-list xs = record { things = xs; exact = λ x. (λ held. held, λ held. held) }

pub listing-either : {X : Type 0} (P Q : X → Type 0) → Listing P → Listing Q → Listing (λ x. P x ⊎ Q x)
listing-either P Q first second = record {
  things = first.things ++ second.things;
  exact = λ x. (
    λ held. elim (Contains-append_cases first.things second.things x held) [
      | inl here ↦ inl ((first.exact x).0 here)
      | inr there ↦ inr ((second.exact x).0 there)
    ],
    λ either. elim either [
      | inl p ↦ Contains-append_left first.things second.things x ((first.exact x).1 p)
      | inr q ↦ Contains-append_right first.things second.things x ((second.exact x).1 q)
    ],
  );
}

-- all things, if something decided holds, and else none
pub listing-where : {X : Type 0} (P : Type 0) (Q : X → Type 0) → Decided P → Listing Q → Listing (λ x. P × Q x)
listing-where P Q (inl p) listing = listing-like Q (λ x. P × Q x) (λ x q. (p, q)) (λ x both. both.1) listing
listing-where P Q (inr never) listing = listing-none (λ x. P × Q x) (λ x both. never both.0)

-- what stands in a relation to one of the things
pub listing-from : {X Y : Type 0} (P : X → Type 0) (R : X → Y → Type 0) → Listing P → ((x : X) → Listing (R x))
    → Listing (λ y. (x : X) × P x × R x y)
listing-from P R listing each = record {
  things = flat_map (λ x. (each x).things) listing.things;
  exact = λ y. (
    λ held. let (x, inside, part) = flat-cases (λ x. (each x).things) listing.things y held in
        (x, (listing.exact x).0 inside, ((each x).exact y).0 part),
    λ (x, p, r). flat-held (λ x. (each x).things) listing.things x y ((listing.exact x).1 p) (((each x).exact y).1 r),
  );
}

-- those of the things that have one more property
pub listing-kept : {X : Type 0} (P Q : X → Type 0) → ((x : X) → Decided (Q x)) → Listing P → Listing (λ x. P x × Q x)
listing-kept {X} P Q decided listing =
    listing-like (λ x. (y : X) × P y × (Q y × (x ≡ y))) (λ x. P x × Q x)
    (λ x (y, p, q). (subst P (sym q.1) p, subst Q (sym q.1) q.0))
    (λ x (p, q). (x, p, (q, refl)))
    (listing-from P (λ y x. Q y × (x ≡ y)) listing (λ y. listing-where (Q y) (λ x. x ≡ y) (decided y) (listing-one y)))

-- the numbers up to one
pub listing-upto : (n : ℕ) → Listing (λ k. k ≤ n)
listing-upto zero = listing-like (λ k. k ≡ 0) (λ k. k ≤ 0) (λ k same. omega (arith, same)) (λ k most. omega (arith, most)) (listing-one 0)
listing-upto (suc n) =
    listing-like (λ k. (k ≤ n) ⊎ (k ≡ suc n)) (λ k. k ≤ suc n)
    (λ k either. elim either [ inl less ↦ omega (arith, less) | inr same ↦ omega (arith, same) ])
    (λ k most. last k most)
    (listing-either (λ k. k ≤ n) (λ k. k ≡ suc n) (listing-upto n) (listing-one (suc n)))
  where
    last : (k : ℕ) → k ≤ suc n → (k ≤ n) ⊎ (k ≡ suc n)
    last k most = elim (cases_lt k (suc n)) [ inl less ↦ inl (omega (arith, less)) | inr more ↦ inr (omega (arith, more, most)) ]
