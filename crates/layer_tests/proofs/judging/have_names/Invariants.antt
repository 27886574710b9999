use Rattle.std.proofs.Common.{All, take}
use Rattle.mine_model.specs.Names.{HasName}
use Rattle.layer_tests.proofs.judging.have_names.Given as goal

abbrev pub invariant-loop-item : goal.invariant-loop-item
invariant-loop-item l = All (HasName l.names) (take l.item-index l.items)
