use Rattle.std.proofs.Common.{◌≡◌, ◌++◌, take, drop}
use Rattle.stand_sums.specs.Kept.{moved}
use Rattle.stand_sums.proofs.ReachLemmas.{end_from}
use Rattle.stand_sums.proofs.reaching.lay_out.Given as goal

-- those before the index are moved, and the others lie where they did
abbrev pub invariant-loop-index : goal.invariant-loop-index
invariant-loop-index l = record {
  now : l.found.items ≡ moved 0 (take l.index l.initial.found.items) ++ drop l.index l.initial.found.items;
  end : l.end ≡ end_from 0 (take l.index l.initial.found.items);
}
