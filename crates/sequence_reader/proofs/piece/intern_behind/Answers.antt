use Rattle.std.proofs.Common.{◌++◌, refl}
use Rattle.mine_model.proofs.NameLemmas.{GrowBy-none, GrowBy-more}
use Rattle.item_names.proofs.FieldLemmas.{texts_at-more, AreItemsOf-more}
use Rattle.sequence_reader.proofs.piece.intern_behind.Goals as goal

pub loop-span-init : goal.loop-span-init
loop-span-init c = record {
  items = rw c.clear.ensures.items (record { named = tt; said = refl });
  grown = GrowBy-none (c.args.known.now ++ c.args.own.now);
}

pub loop-span-preserved : goal.loop-span-preserved
loop-span-preserved c =
    let step = c.in-Ok.ensures.grown in
    let more = texts_at-more c.args.text.now c.args.fields.now c.loop-span.span-index _ c.loop-span-test.true in
    record {
      items = rw (c.in-Ok-push.ensures.items, more) (AreItemsOf-more (c.args.known.now ++ c.loop-span.own) (c.args.known.now ++ c.number_behind.new.own) c.loop-span.items.items _ c.in-Ok.item _ c.loop-span.invariant.items step c.in-Ok.ensures.number);
      grown = rw more (GrowBy-more (c.args.known.now ++ c.args.own.now) _ (c.args.known.now ++ c.loop-span.own) _ (c.args.known.now ++ c.number_behind.new.own) c.loop-span.invariant.grown step);
    }
