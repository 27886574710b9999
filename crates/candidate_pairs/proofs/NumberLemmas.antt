-- How many things have a property that is another one, or one of two.
use Rattle.std.proofs.Common.{◌≡◌, ◌≢◌, ◌↔◌, ◌⊎◌, inl, inr, ℕ, ◌+◌, [], ◌∷◌, ◌++◌, refl, sym, subst, arith, length-append}
use Rattle.std.specs.List.{Contains}
use Rattle.std.proofs.lemmas.List.Elements.{Contains-append_left, Contains-append_right, Contains-append_cases}
use Rattle.mine_model.specs.Numbers.{IsNumberOf}
use Rattle.mine_model.proofs.ListLemmas.{Contains-cases, Contains-first, Contains-none, AllPairs-append}

-- nothing has it
pub number-none : {X : Type 0} (Has : X → Type 0) → ((x : X) → Has x → ⊥) → IsNumberOf Has 0
number-none Has never = record {
  things = [];
  once = λ i j d less within. absurd (omega (arith, within));
  exact = λ x. ((λ held. absurd (Contains-none x held)), (λ has. absurd (never x has)));
  counted = refl;
}

-- one thing alone has it
pub number-one : {X : Type 0} (Has : X → Type 0) (only : X) → Has only → ((x : X) → Has x → x ≡ only) → IsNumberOf Has 1
number-one Has only has alone = record {
  things = only ∷ [];
  once = λ i j d less within. absurd (omega (arith, less, within));
  exact = λ x. (
    (λ held. elim (Contains-cases only [] x held) [ inl same ↦ subst Has (sym same) has | inr none ↦ absurd (Contains-none x none) ]),
    (λ here. subst (Contains (only ∷ [])) (sym (alone x here)) (Contains-first only [])),
  );
  counted = refl;
}

-- what has the one has the other
pub number-also : {X : Type 0} (Has Also : X → Type 0) (n : ℕ) → ((x : X) → Has x ↔ Also x) → IsNumberOf Has n → IsNumberOf Also n
number-also Has Also n same is = record {
  things = is.things;
  once = is.once;
  exact = λ x. ((λ held. (same x).0 ((is.exact x).0 held)), (λ also. (is.exact x).1 ((same x).1 also)));
  counted = is.counted;
}

-- what has it has one of two, and never both
pub number-either : {X : Type 0} (One Other Has : X → Type 0) (m n : ℕ) → ((x : X) → One x → Other x → ⊥) → ((x : X) → (One x ⊎ Other x) ↔ Has x)
    → IsNumberOf One m → IsNumberOf Other n → IsNumberOf Has (m + n)
number-either One Other Has m n apart same one other = record {
  things = one.things ++ other.things;
  once = AllPairs-append (λ x y. x ≢ y) one.things other.things one.once other.once
      (λ x y here there is. apart y (subst One is ((one.exact x).0 here)) ((other.exact y).0 there));
  exact = λ x. (
    (λ held. elim (Contains-append_cases one.things other.things x held) [
      | inl here ↦ (same x).0 (inl ((one.exact x).0 here))
      | inr there ↦ (same x).0 (inr ((other.exact x).0 there))
    ]),
    (λ has. elim ((same x).1 has) [
      | inl here ↦ Contains-append_left one.things other.things x ((one.exact x).1 here)
      | inr there ↦ Contains-append_right one.things other.things x ((other.exact x).1 there)
    ]),
  );
  counted = omega (arith, one.counted, other.counted, length-append one.things other.things);
}
