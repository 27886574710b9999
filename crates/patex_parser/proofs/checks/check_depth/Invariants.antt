use Rattle.std.proofs.Common.{◌≡◌, ◌≤◌, take, []}
use Rattle.mine_model.specs.Limits.{most_nested}
use Rattle.patex_parser.specs.Checking.{NoneHas, IsTooDeepRead, open_after, signs_after}
use Rattle.patex_parser.proofs.checks.check_depth.Given as goal

abbrev pub invariant-loop-token : goal.invariant-loop-token
invariant-loop-token l = record {
  none_deep : NoneHas IsTooDeepRead [] (take l.token-index l.tokens);
  is_open : l.depth.open ≡ open_after (take l.token-index l.tokens);
  are_signs : l.depth.signs ≡ signs_after (take l.token-index l.tokens);
  open_within : l.depth.open ≤ most_nested;
  signs_within : l.depth.signs ≤ most_nested;
}
