use Rattle.std.proofs.Common.{length}
use Rattle.sequence_grids.specs.Kinds.{IsRow, AreActs, Extends}
use Rattle.sequence_grids.proofs.kinds.push_outputs.Given as goal

abbrev pub invariant-loop-column : goal.invariant-loop-column
invariant-loop-column l = record {
  ends : Extends l.fn.ends.items l.ends.items;
  ranks : Extends l.fn.ranks.items l.ranks.items;
  row : IsRow l.job l.bound l.t l.columns.heads.items (length l.fn.ends.items) l.ends.items l.ranks.items l.column;
  acts : AreActs l.job l.bound l.t l.columns.heads.items l.scratch.acts.items l.column;
}
