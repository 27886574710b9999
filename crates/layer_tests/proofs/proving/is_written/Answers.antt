use Rattle.std.proofs.Common.{List, subst}
use Rattle.std.specs.List.{Contains}
use Rattle.mine_model.specs.declared.row.Row.{Row}
use Rattle.layer_tests.proofs.proving.is_written.Goals as goal

pub new-requires-2-clause-frequent : goal.new-requires-2-clause-frequent
new-requires-2-clause-frequent c = λ row has.
    (c.in_ok-mined.ensures.frequent.frequent row).0 (subst (λ (rows : List Row). Contains rows row) c.as_slice-2.ensures.value has)
