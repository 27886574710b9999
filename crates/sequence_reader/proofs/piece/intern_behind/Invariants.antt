use Rattle.std.proofs.Common.{◌++◌, take}
use Rattle.mine_model.specs.Names.{GrowBy}
use Rattle.item_names.specs.Fields.{texts_at, AreItemsOf}
use Rattle.sequence_reader.proofs.piece.intern_behind.Given as goal

abbrev pub invariant-loop-span : goal.invariant-loop-span
invariant-loop-span l = record {
  items : AreItemsOf (l.known ++ l.own) l.items.items (texts_at l.text (take l.span-index l.fields));
  grown : GrowBy (l.known ++ l.fn.own) (texts_at l.text (take l.span-index l.fields)) (l.known ++ l.own);
}
