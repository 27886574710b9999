use Rattle.std.proofs.Common.{inl, refl, subst, ap, ◌∙◌, List, ℕ}
use Rattle.std.specs.List.{Contains, slice_get}
use Rattle.mine_model.proofs.ElementLemmas.{get-held, stands_last}
use Rattle.item_names.proofs.Names.intern.Goals as goal

pub returns-in-Some-clause-names : goal.returns-in-Some-clause-names
returns-in-Some-clause-names c =
    inl (subst (λ (names : List (List ℕ)). Contains names c.args.name.now) c.self.view_is (get-held c.self.inside.texts c.in-Some.item.0 c.args.name.now c.in-Some.ensures.number), refl)

pub returns-in-Ok-clause-number : goal.returns-in-Ok-clause-number
returns-in-Ok-clause-number c =
    ap (λ (names : List (List ℕ)). slice_get names c.in-Ok.item.0) c.in-Ok.ensures.names ∙ stands_last c.args.self.now c.args.name.now c.in-Ok.item.0 c.in-Ok.ensures.number
