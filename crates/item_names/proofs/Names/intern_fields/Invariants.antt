use Rattle.std.proofs.Common.{take}
use Rattle.mine_model.specs.Names.{GrowBy}
use Rattle.item_names.specs.Fields.{texts_at, AreItemsOf}
use Rattle.item_names.proofs.Names.intern_fields.Given as goal

abbrev pub invariant-loop-span : goal.invariant-loop-span
invariant-loop-span l = record {
  items : AreItemsOf l.self l.items.items (texts_at l.text (take l.span-index l.fields));
  grown : GrowBy l.fn.self (texts_at l.text (take l.span-index l.fields)) l.self;
}
