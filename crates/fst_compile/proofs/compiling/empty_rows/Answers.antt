use Rattle.std.proofs.Common.{◌∷◌, [], arith}
use Rattle.std.proofs.lemmas.List.{length-append}
use Rattle.fst_compile.proofs.CompileLemmas.{none-more}
use Rattle.fst_compile.proofs.compiling.empty_rows.Goals as goal

pub loop-row-preserved : goal.loop-row-preserved
loop-row-preserved c =
    rw (c.in_ok-push.ensures.items, c.new.ensures)
    (omega (arith, length-append c.loop-row.rows.items (0 ∷ []), c.loop-row.invariant.0), none-more c.loop-row.rows.items c.loop-row.invariant.1)
