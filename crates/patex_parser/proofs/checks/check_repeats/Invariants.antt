use Rattle.std.proofs.Common.{take, []}
use Rattle.patex_parser.specs.declared.token.Kind.TheVariants.{BadRepeat, BeyondLimit}
use Rattle.patex_parser.specs.Checking.{NoneHas, TellsFirst, IsOf}
use Rattle.patex_parser.proofs.checks.check_repeats.Given as goal

abbrev pub invariant-loop-token : goal.invariant-loop-token
invariant-loop-token l = record {
  none_bad : NoneHas (IsOf BadRepeat) [] (take l.token-index l.tokens);
  first_beyond : TellsFirst (IsOf BeyondLimit) (take l.token-index l.tokens) l.beyond;
}
