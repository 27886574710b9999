use Rattle.std.proofs.Common.{◌≡◌, ◌*◌, ◌≤◌, ℕ, List, map, take}
use Rattle.mine_model.specs.Names.{named_row}
use Rattle.made_input.specs.Summary.{supports_of}
use Rattle.made_input.proofs.summing.supports.Given as goal

abbrev pub invariant-loop-row : goal.invariant-loop-row
invariant-loop-row l = ((names : List (List ℕ)) → l.sum ≡ supports_of (map (named_row names) (take l.row-index l.rows)))
    × (l.sum ≤ l.row-index * 18446744073709551615)
