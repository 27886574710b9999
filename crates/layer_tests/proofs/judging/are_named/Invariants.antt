use Rattle.std.proofs.Common.{All, take}
use Rattle.mine_model.specs.Names.{HasName}
use Rattle.layer_tests.proofs.judging.are_named.Given as goal

abbrev pub invariant-loop-row : goal.invariant-loop-row
invariant-loop-row l = All (λ row. All (HasName l.names) row.pattern) (take l.row-index l.rows)
