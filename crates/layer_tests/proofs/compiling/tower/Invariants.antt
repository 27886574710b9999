use Rattle.std.proofs.Common.{◌≡◌}
use Rattle.mine_model.specs.Expression.{unfolded_leaves}
use Rattle.mine_model.specs.Numbered.{tree_of}
use Rattle.layer_tests.proofs.compiling.tower.Given as goal

abbrev pub invariant-loop-sign : goal.invariant-loop-sign
invariant-loop-sign l = unfolded_leaves (tree_of l.tower) ≡ 1
