use Rattle.std.proofs.Common.{◌≡◌, take}
use Rattle.stand_sums.proofs.run.Run.plain.Given as goal

abbrev pub invariant-loop-index : goal.invariant-loop-index
invariant-loop-index l = record {
  taken : l.rest.items ≡ take l.index l.stands;
}
