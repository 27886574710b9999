-- Names that grow.
use Rattle.std.proofs.Common.{inl, inr, List, [], ◌∷◌, ◌++◌, ℕ, sym, subst}
use Rattle.std.specs.List.{Contains}
use Rattle.std.proofs.lemmas.List.Elements.{Contains-append_left, Contains-append_right, Contains-append_cases}
use Rattle.mine_model.specs.Names.{GrowBy}
use Rattle.mine_model.specs.Refusal.{HasMoreNames}
use Rattle.mine_model.proofs.NameLemmas.{GrowBy-held, GrowBy-new}
use Rattle.item_names.specs.Names.{IsInterned}

pub GrowBy-interned : (old : List (List ℕ)) (name : List ℕ) (new : List (List ℕ)) → IsInterned old name new → GrowBy old (name ∷ []) new
GrowBy-interned old name new (inl held) = subst (GrowBy old (name ∷ [])) (sym held.1) (GrowBy-held old name held.0)
GrowBy-interned old name new (inr more) = subst (GrowBy old (name ∷ [])) (sym more.1) (GrowBy-new old name)

-- where the names that grew and some more are too many, the old ones, those by which they grew and these are
pub HasMoreNames-grown : (n : ℕ) (old names new more : List (List ℕ)) → GrowBy old names new → HasMoreNames n (new ++ more) → HasMoreNames n (old ++ (names ++ more))
HasMoreNames-grown n old names new more grown (some, apart, inside, many) = (some, apart, (λ k d lt. among _ (inside k d lt)), many)
  where
    among : (name : List ℕ) → Contains (new ++ more) name → Contains (old ++ (names ++ more)) name
    among name held = elim (Contains-append_cases new more name held) [
      | inl here ↦ elim (Contains-append_cases old names name ((grown.exact name).0 here)) [
        | inl before ↦ Contains-append_left old (names ++ more) name before
        | inr met ↦ Contains-append_right old (names ++ more) name (Contains-append_left names more name met)
      ]
      | inr there ↦ Contains-append_right old (names ++ more) name (Contains-append_right names more name there)
    ]
