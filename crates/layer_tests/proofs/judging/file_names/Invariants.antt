use Rattle.std.proofs.Common.{◌≢◌, true, []}
use Rattle.std.specs.List.{AllByRecursion}
use Rattle.mine_model.specs.Text.{is_name_byte}
use Rattle.mine_model.specs.Tokens.{Each}
use Rattle.layer_tests.proofs.judging.file_names.Given as goal

abbrev pub invariant-loop-word : goal.invariant-loop-word
invariant-loop-word l = record {
  some : AllByRecursion (λ name. name ≢ []) l.names;
  bytes : AllByRecursion (Each is_name_byte true) l.names;
}
