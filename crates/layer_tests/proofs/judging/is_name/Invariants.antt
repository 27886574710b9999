use Rattle.std.proofs.Common.{true, take}
use Rattle.mine_model.specs.Text.{is_name_byte}
use Rattle.mine_model.specs.Tokens.{Each}
use Rattle.layer_tests.proofs.judging.is_name.Given as goal

abbrev pub invariant-loop-byte : goal.invariant-loop-byte
invariant-loop-byte l = Each is_name_byte true (take l.byte-index l.bytes)
