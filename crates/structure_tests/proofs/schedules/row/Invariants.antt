use Rattle.std.proofs.Common.{◌≡◌, map, take}
use Rattle.structure_tests.proofs.schedules.row.Given as goal

abbrev pub invariant-loop-rank : goal.invariant-loop-rank
invariant-loop-rank l = l.items.items ≡ map (λ rank. record { 0 = rank }) (take l.rank-index l.label)
