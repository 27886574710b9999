use Rattle.std.proofs.Common.{inl, refl, subst, List, ℕ, slice_range}
use Rattle.std.specs.List.{Contains}
use Rattle.mine_model.proofs.ElementLemmas.{get-held}
use Rattle.item_names.proofs.Names.intern_within.Goals as goal

pub returns-in-Some-clause-names : goal.returns-in-Some-clause-names
returns-in-Some-clause-names c =
    let name : List ℕ = slice_range c.args.text.now c.args.span.from c.args.span.to in
    inl (subst (λ (names : List (List ℕ)). Contains names name) c.self.view_is (get-held c.self.inside.texts c.in-Some.item.0 name c.in-Some.ensures.number), refl)
