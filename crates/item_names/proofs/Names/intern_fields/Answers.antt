use Rattle.std.proofs.Common.{◌≡◌, ℕ, List, ◌++◌, inl, inr, refl, ap, subst, take, Err}
use Rattle.std.proofs.lemmas.List.Elements.{Contains-append_left, Contains-append_right, Contains-append_cases}
use Rattle.item_names.specs.declared.names_fault.NamesFault.TheVariants.{TooMany}
use Rattle.mine_model.specs.Limits.{most_items}
use Rattle.mine_model.specs.Names.{AreDistinct}
use Rattle.mine_model.proofs.NameLemmas.{GrowBy-none, GrowBy-more, more_names}
use Rattle.item_names.proofs.Growing.{GrowBy-interned}
use Rattle.item_names.specs.Fields.{texts_at}
use Rattle.item_names.proofs.FieldLemmas.{texts_at-more, texts_at-front, texts_at-at, AreItemsOf-more}
use Rattle.item_names.proofs.Names.intern_fields.Goals as goal

pub loop-span-init : goal.loop-span-init
loop-span-init c = record {
  items = rw c.clear.ensures.items (record { named = tt; said = refl });
  grown = GrowBy-none c.args.self.now;
}

pub returns-in-Err-clause-too_many : goal.returns-in-Err-clause-too_many
returns-in-Err-clause-too_many c is =
    let fault : c.in-Err.fault ≡ TooMany = cc in
    let full = c.in-Err.ensures.too_many (ap Err fault) in
    let kept : c.intern_within.new.self ≡ c.loop-span.self = c.in-Err.ensures.err in
    let distinct : AreDistinct c.loop-span.self = subst AreDistinct kept c.in-Err.ensures.distinct in
    let all : List (List ℕ) = c.args.self.now ++ texts_at c.args.text.now c.args.fields.now in
    more_names most_items c.loop-span.self all _ distinct full.0 full.1
    (λ other inside. elim (Contains-append_cases c.args.self.now (texts_at c.args.text.now (take c.loop-span.span-index c.args.fields.now)) other ((c.loop-span.invariant.grown.exact other).0 inside)) [
      | inl old ↦ Contains-append_left c.args.self.now (texts_at c.args.text.now c.args.fields.now) other old
      | inr met ↦ Contains-append_right c.args.self.now (texts_at c.args.text.now c.args.fields.now) other (texts_at-front c.args.text.now c.args.fields.now c.loop-span.span-index other met)
    ])
    (Contains-append_right c.args.self.now (texts_at c.args.text.now c.args.fields.now) _ (texts_at-at c.args.text.now c.args.fields.now c.loop-span.span-index _ c.loop-span-test.true))

pub loop-span-preserved : goal.loop-span-preserved
loop-span-preserved c =
    let step = GrowBy-interned c.loop-span.self _ c.intern_within.new.self c.in-Ok.ensures.names in
    let more = texts_at-more c.args.text.now c.args.fields.now c.loop-span.span-index _ c.loop-span-test.true in
    record {
      items = rw (c.in-Ok-push.ensures.items, more) (AreItemsOf-more c.loop-span.self c.intern_within.new.self c.loop-span.items.items _ c.in-Ok.item _ c.loop-span.invariant.items step c.in-Ok.ensures.number);
      grown = rw more (GrowBy-more c.args.self.now _ c.loop-span.self _ c.intern_within.new.self c.loop-span.invariant.grown step);
    }

pub returns-in-Err-push-clause-kept : goal.returns-in-Err-push-clause-kept
returns-in-Err-push-clause-kept c =
    let step = GrowBy-interned c.loop-span.self _ c.intern_within.new.self c.in-Ok.ensures.names in
    let grown = GrowBy-more c.args.self.now _ c.loop-span.self _ c.intern_within.new.self c.loop-span.invariant.grown step in
    (grown.added, grown.behind)
