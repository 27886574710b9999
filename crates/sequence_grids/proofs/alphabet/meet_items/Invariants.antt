use Rattle.std.proofs.Common.{◌<◌}
use Rattle.mine_model.specs.declared.item.Item.{Item}
use Rattle.sequence_grids.specs.Kinds.{AreKinds, IsMet}
use Rattle.sequence_grids.specs.Places.{IsTableOf}
use Rattle.sequence_grids.proofs.alphabet.meet_items.Given as goal

abbrev pub invariant-loop-number : goal.invariant-loop-number
invariant-loop-number l = record {
  table : IsTableOf l.job l.all.tables;
  kinds : AreKinds l.job l.bound l.all.tables.classes l.all.kinds;
  met : (t : Item) → t.0 < l.number → IsMet l.all.kinds t;
}
