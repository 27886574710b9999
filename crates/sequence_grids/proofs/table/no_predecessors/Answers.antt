use Rattle.std.proofs.Common.{◌∷◌, [], arith}
use Rattle.std.proofs.lemmas.List.{length-append}
use Rattle.fst_compile.proofs.CompileLemmas.{none-more}
use Rattle.sequence_grids.proofs.SetLemmas.{Precedes-none}
use Rattle.sequence_grids.proofs.table.no_predecessors.Goals as goal

pub loop-state-preserved : goal.loop-state-preserved
loop-state-preserved g c =
    rw (c.in_ok-push.ensures.items, c.new.ensures)
    (omega (arith, length-append c.loop-state.sets.items (0 ∷ []), c.loop-state.invariant.0), none-more c.loop-state.sets.items c.loop-state.invariant.1)

pub returns-clause-none : goal.returns-clause-none
returns-clause-none g c = Precedes-none c.loop-state.sets.items c.loop-state.invariant.1
