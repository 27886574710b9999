use Rattle.std.proofs.Common.{◌≡◌, ℕ, List, map, take}
use Rattle.mine_model.specs.Names.{named_row}
use Rattle.made_input.specs.Summary.{longest_of}
use Rattle.made_input.proofs.summing.longest.Given as goal

abbrev pub invariant-loop-row : goal.invariant-loop-row
invariant-loop-row l = (names : List (List ℕ)) → l.longest ≡ longest_of (map (named_row names) (take l.row-index l.rows))
