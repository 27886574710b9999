use Rattle.std.proofs.Common.{◌≡◌, take}
use Rattle.item_names.proofs.Names.first.Given as goal

abbrev pub invariant-loop-number : goal.invariant-loop-number
invariant-loop-number l = record {
  front : l.names ≡ take l.number l.self;
}
