use Rattle.std.proofs.Common.{◌≡◌, ◌+◌, ◌∷◌, ◌++◌, [], Some, inr, true, map, take, sym, ap, subst, ◌∙◌, refl}
use Rattle.std.specs.Prelude.{Contains, is_ok, not, if◌then◌else◌}
use Rattle.patex_parser.specs.Parsing.{use_view}
use Rattle.patex_parser.specs.Resolving.{AreItemsOf}
use Rattle.patex_parser.proofs.ResolveLemmas.{unknown-here, items-on}
use Rattle.patex_parser.proofs.resolving.items_of.Goals as goal

pub returns-in_default-clause-err : goal.returns-in_default-clause-err
returns-in_default-clause-err g c =
    let names = g.N.FindName.names_of c.args.names.now in
    let u = c.name_use-item.result in
    inr (unknown-here names c.args.uses.now c.loop-name_use.items.items c.loop-name_use.name_use-index u c.loop-name_use-test.true c.name_use-item.is
    c.loop-name_use.invariant (subst (λ text. Contains names text → ⊥) c.bytes.ensures (c.in_default.ensures.none.0 refl)))

pub loop-name_use-preserved : goal.loop-name_use-preserved
loop-name_use-preserved g c =
    let names = g.N.FindName.names_of c.args.names.now in
    let u = c.name_use-item.result in
    let on = items-on names c.args.uses.now c.loop-name_use.items.items c.loop-name_use.name_use-index u c.in-Some.item c.loop-name_use-test.true c.name_use-item.is
    c.loop-name_use.invariant (c.in-Some.ensures.number ∙ ap (λ text. Some text) c.bytes.ensures) in
    let ok : is_ok c.push.result ≡ true = c.is_err.ensures.negation ∙ ap not c.if-is_err.false in
    let items = c.loop-name_use.items.items in
    let pushed : c.push.new.self.items ≡ items ++ c.in-Some.item ∷ [] =
    c.push.ensures.items ∙ ap (λ b. if b then items ++ c.in-Some.item ∷ [] else items) ok in
    subst (λ xs. AreItemsOf names (map use_view (take (c.loop-name_use.name_use-index + 1) c.args.uses.now)) xs) (sym pushed) on
