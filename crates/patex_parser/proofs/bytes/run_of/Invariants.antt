use Rattle.std.proofs.Common.{length, ◌-◌, ◌≤◌, true, take}
use Rattle.mine_model.specs.Tokens.{Each}
use Rattle.patex_parser.specs.Classes.{test_of}
use Rattle.patex_parser.proofs.bytes.run_of.Given as goal

abbrev pub invariant-loop-end : goal.invariant-loop-end
invariant-loop-end l = record {
  within : l.end ≤ length l.bytes;
  each : Each (test_of l.class) true (take l.end l.bytes);
}

abbrev pub decreases-loop-end : goal.decreases-loop-end
decreases-loop-end l = length l.bytes - l.end
