use Rattle.std.proofs.Common.{take}
use Rattle.mine_model.specs.Names.{GrowBy}
use Rattle.item_names.specs.Fields.{AreItemsOf}
use Rattle.item_names.proofs.Names.intern_all.Given as goal

abbrev pub invariant-loop-number : goal.invariant-loop-number
invariant-loop-number l = record {
  items : AreItemsOf l.self l.items.items (take l.number l.other);
  grown : GrowBy l.fn.self (take l.number l.other) l.self;
}
