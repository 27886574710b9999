use Rattle.std.proofs.Common.{◌≡◌, ◌≤◌}
use Rattle.sequence_grids.specs.Kinds.{AreEntered}
use Rattle.sequence_grids.proofs.kinds.enter.Given as goal

abbrev pub invariant-loop-k : goal.invariant-loop-k
invariant-loop-k l = record {
  least : 1 ≤ l.k;
  acts : l.scratch.acts.items ≡ l.fn.scratch.acts.items;
  entered : AreEntered l.job l.fn.bound l.fn.t l.k l.scratch.silent.items l.scratch.writes.items l.scratch.needs.items;
}
