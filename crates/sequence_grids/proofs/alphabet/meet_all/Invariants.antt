use Rattle.std.proofs.Common.{take}
use Rattle.std.specs.List.{Contains}
use Rattle.mine_model.specs.declared.item.Item.{Item}
use Rattle.sequence_grids.specs.Tables.{Grows}
use Rattle.sequence_grids.specs.Kinds.{AreKinds, KindsGrow, IsMet}
use Rattle.sequence_grids.specs.Places.{IsTableOf}
use Rattle.sequence_grids.proofs.alphabet.meet_all.Given as goal

abbrev pub invariant-loop-t : goal.invariant-loop-t
invariant-loop-t l = record {
  table : IsTableOf l.job l.tables;
  kinds : AreKinds l.job l.bound l.tables.classes l.kinds;
  tables_grow : Grows l.fn.tables l.tables;
  kinds_grow : KindsGrow l.fn.kinds l.kinds;
  kept : (t : Item) → IsMet l.fn.kinds t → IsMet l.kinds t;
  met : (t : Item) → Contains (take l.t-index l.items) t → IsMet l.kinds t;
}
