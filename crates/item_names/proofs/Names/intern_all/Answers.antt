use Rattle.std.proofs.Common.{◌≡◌, ℕ, List, ◌++◌, [], inl, inr, refl, sym, ap, subst, take, get_or, Err, Some, slice_get, ◌∙◌, ◌<◌, length, arith}
use Rattle.std.specs.List.{Contains}
use Rattle.std.proofs.lemmas.List.{take_more}
use Rattle.std.proofs.lemmas.List.Elements.{Contains-append_left, Contains-append_right, Contains-append_cases, Contains-get_or}
use Rattle.item_names.specs.declared.names_fault.NamesFault.TheVariants.{TooMany}
use Rattle.item_names.specs.Names.{IsInterned}
use Rattle.mine_model.specs.Limits.{most_items}
use Rattle.mine_model.specs.Names.{AreDistinct}
use Rattle.mine_model.proofs.NameLemmas.{GrowBy-none, GrowBy-more, more_names}
use Rattle.item_names.proofs.Growing.{GrowBy-interned}
use Rattle.item_names.proofs.FieldLemmas.{AreItemsOf-more}
use Rattle.item_names.proofs.JoiningLemmas.{Contains-front}
use Rattle.item_names.proofs.Names.intern_all.Goals as goal

pub loop-number-init : goal.loop-number-init
loop-number-init c = record {
  items = rw c.clear.ensures.items (record { named = tt; said = refl });
  grown = GrowBy-none c.args.self.now;
}

pub returns-in-Err-clause-too_many : goal.returns-in-Err-clause-too_many
returns-in-Err-clause-too_many c is =
    let within : c.loop-number.number < length c.args.other.now = let below = c.loop-number-test.true in let count = c.count-number-end.ensures.count in omega (arith, below, count) in
    let fault : c.in-Err.fault ≡ TooMany = cc in
    let full = c.in-Err.ensures.too_many.0 (ap Err fault) in
    let kept : c.intern.new.self ≡ c.loop-number.self = c.in-Err.ensures.err in
    let distinct : AreDistinct c.loop-number.self = subst AreDistinct kept c.in-Err.ensures.distinct in
    let own : List (List ℕ) = c.args.self.now in
    let others : List (List ℕ) = c.args.other.now in
    let here : Contains others c.text.result.now =
    subst (Contains others) (sym c.text.ensures) (Contains-get_or others c.loop-number.number [] within) in
    more_names most_items c.loop-number.self (own ++ others) c.text.result.now distinct full.0 full.1
    (λ other inside. elim (Contains-append_cases own (take c.loop-number.number others) other ((c.loop-number.invariant.grown.exact other).0 inside)) [
      | inl old ↦ Contains-append_left own others other old
      | inr met ↦ Contains-append_right own others other (Contains-front others c.loop-number.number other met)
    ])
    (Contains-append_right own others _ here)

pub loop-number-preserved : goal.loop-number-preserved
loop-number-preserved c =
    let within : c.loop-number.number < length c.args.other.now = let below = c.loop-number-test.true in let count = c.count-number-end.ensures.count in omega (arith, below, count) in
    let others : List (List ℕ) = c.args.other.now in
    let name : List ℕ = get_or others c.loop-number.number [] in
    let interned : IsInterned c.loop-number.self name c.intern.new.self =
    subst (λ (w : List ℕ). IsInterned c.loop-number.self w c.intern.new.self) c.text.ensures c.in-Ok.ensures.names in
    let number : slice_get c.intern.new.self c.in-Ok.item.0 ≡ Some name = c.in-Ok.ensures.number ∙ ap Some c.text.ensures in
    let step = GrowBy-interned c.loop-number.self name c.intern.new.self interned in
    let more = take_more others c.loop-number.number [] within in
    record {
      items = rw (c.in-Ok-push.ensures.items, more) (AreItemsOf-more c.loop-number.self c.intern.new.self c.loop-number.items.items _ c.in-Ok.item name c.loop-number.invariant.items step number);
      grown = rw more (GrowBy-more c.args.self.now _ c.loop-number.self _ c.intern.new.self c.loop-number.invariant.grown step);
    }
