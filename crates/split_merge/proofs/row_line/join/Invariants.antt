use Rattle.std.proofs.Common.{◌≡◌, take}
use Rattle.std.specs.List.{join_with_byte}
use Rattle.mine_model.specs.Bytes.{space}
use Rattle.item_names.specs.Fields.{texts_at}
use Rattle.split_merge.proofs.row_line.join.Given as goal

abbrev pub invariant-loop-at : goal.invariant-loop-at
invariant-loop-at l = l.joined.items ≡ join_with_byte space (texts_at l.text (take l.at l.names))
