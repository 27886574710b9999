-- Elements that differ still do in another order.
use Rattle.std.proofs.Common.{◌≡◌, ◌≢◌, ◌==◌, Bool, List, inl, inr, sym, ap, ◌∙◌, true≢false}
use Rattle.std.specs.Bool.{Decides}
use Rattle.std.specs.List.{AllPairs}
use Rattle.std.specs.List.Sorted.{IsPermutation}
use Rattle.std.proofs.lemmas.Bool.{cases_Bool}
use Rattle.std.proofs.lemmas.Bool.Decides.{Decides-eqb}
use Rattle.std.proofs.lemmas.Map.Keys.{IsDistinct-IsPermutation}
use Rattle.std.proofs.lemmas.Map.Made.{AllPairs-from_IsDistinct, IsDistinct-from_AllPairs}
use Rattle.mine_model.specs.declared.item.Item.{Item}
use Rattle.mine_model.proofs.AncestryLemmas.{Item-same}

-- the test of two items by their numbers
abbrev pub item_eq : Item → Item → Bool
item_eq v w = v.0 == w.0

pub item_eq-Decides : (v w : Item) → Decides (item_eq v w) (v ≡ w)
item_eq-Decides v w = (
  λ e. Item-same v w ((Decides-eqb v.0 w.0).0 e),
  λ e. (Decides-eqb v.0 w.0).1 (ap (λ (item : Item). item.0) e),
)

module _ {X : Type 0} {eq : X → X → Bool} (decides : (x y : X) → Decides (eq x y) (x ≡ y)) where
  -- a test that tells whether two are one gives the same both ways
  flips : (x y : X) → eq x y ≡ eq y x
  flips x y = elim (cases_Bool (eq x y)) [
    | inl same ↦ same ∙ sym ((decides y x).1 (sym ((decides x y).0 same)))
    | inr apart ↦ elim (cases_Bool (eq y x)) [
      | inl same ↦ absurd (true≢false (sym ((decides x y).1 (sym ((decides y x).0 same))) ∙ apart))
      | inr other ↦ apart ∙ sym other
    ]
  ]

  pub apart_by_permutation : (xs ys : List X) → IsPermutation xs ys → AllPairs (λ x y. x ≢ y) xs → AllPairs (λ x y. x ≢ y) ys
  apart_by_permutation xs ys moved apart =
      AllPairs-from_IsDistinct decides ys (IsDistinct-IsPermutation eq flips xs ys moved (IsDistinct-from_AllPairs decides xs apart))
