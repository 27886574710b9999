-- A row as an entry of a map from patterns to supports.
use Rattle.std.specs.Prelude.{ℕ}
use Rattle.std.specs.declared.alloc.Global.{Global}
use Rattle.std.specs.declared.vec.Vec.{Vec}
use Rattle.mine_model.specs.declared.item.Item.{Item}
use Rattle.mine_model.specs.declared.row.Row.{Row}

abbrev pub row_of : Vec Item Global × ℕ → Row
row_of entry = record { pattern = entry.0.items; support = entry.1 }
