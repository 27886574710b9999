use Rattle.std.proofs.Common.{◌≡◌, List, [], ◌∷◌, map, length, refl, sym, ◌∙◌, subst, arith, vec_len}
use Rattle.std.specs.List.{Contains}
use Rattle.std.proofs.lemmas.List.Elements.{Contains-append_left}
use Rattle.std.proofs.lemmas.Bool.{eqb-true}
use Rattle.std.proofs.lemmas.Result.{on_ok_weaker}
use Rattle.mine_model.proofs.ListLemmas.{Contains-by}
use Rattle.walk_places.specs.declared.places.Record.{Record}
use Rattle.walk_places.specs.Records.{record_of}
use Rattle.walk_places.proofs.RecordLemmas.{records-appended}
use Rattle.walk_places.proofs.places.Places.append_renamed.Goals as goal
use Rattle.walk_places.proofs.places.Places.append_renamed.Goals.{After-as_slice}

pub append_codes-requires-clause-known : goal.append_codes-requires-clause-known
append_codes-requires-clause-known c code held =
    let codes = c.more.inside.codes.items in
    let there : Contains codes code = subst (λ (l : List _). Contains l code) c.as_slice.ensures.value held in
    c.requires.known (record_of code)
    (subst (λ (l : List Record). Contains l (record_of code)) c.more.view_is
    (Contains-append_left (map record_of codes) c.more.inside.rest.items (record_of code) (Contains-by record_of codes code there)))

none-left : (rest : List Record) → length rest ≡ 0 → rest ≡ []
none-left [] none = refl
none-left (entry ∷ rest) none = absurd (omega arith)

pub returns-then-are_low-clause-all : goal.returns-then-are_low-clause-all
returns-then-are_low-clause-all c = on_ok_weaker c.append_codes.result
    (λ added.
    let nothing : vec_len c.self.inside.rest ≡ 0 = eqb-true _ _ (sym c.is_empty.ensures ∙ c.if-is_empty.true) in
    let nothing_more : vec_len c.more.inside.rest ≡ 0 = eqb-true _ _ (sym c.is_empty-then-is_empty.ensures ∙ c.if-is_empty-2.true) in
    let all = records-appended c.args.names.now c.self.inside.codes.items c.as_slice.result.now c.append_codes.new.codes.items c.self.inside.rest.items c.more.inside.rest.items
    (c.are_low.ensures c.if-are_low.true) (append_codes-requires-clause-known (goal.at.returns-then-are_low-clause-all c).After-as_slice)
    (none-left c.self.inside.rest.items (omega (arith, c.self.inside.rest.ok))) (none-left c.more.inside.rest.items (omega (arith, c.more.inside.rest.ok))) added in
    rw (← c.self.view_is, ← c.more.view_is, ← c.as_slice.ensures.value) all) c.append_codes.ensures.all
