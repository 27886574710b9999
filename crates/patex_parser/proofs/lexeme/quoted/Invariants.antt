use Rattle.std.proofs.Common.{length, ◌-◌, ◌≡◌, ◌≤◌, take}
use Rattle.mine_model.specs.Tokens.{doubled}
use Rattle.patex_parser.proofs.lexeme.quoted.Given as goal

abbrev pub invariant-loop-at : goal.invariant-loop-at
invariant-loop-at l = record {
  within : l.at ≤ length l.inner;
  so_far : take l.at l.inner ≡ doubled l.bytes.items;
}

abbrev pub decreases-loop-at : goal.decreases-loop-at
decreases-loop-at l = length l.inner - l.at
