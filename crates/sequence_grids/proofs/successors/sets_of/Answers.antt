use Rattle.std.proofs.Common.{arith}
use Rattle.sequence_grids.proofs.SuccessorLemmas.{first-none, first-more, first-all}
use Rattle.sequence_grids.proofs.successors.sets_of.Goals as goal

pub loop-state-init : goal.loop-state-init
loop-state-init g c = rw c.new-sets.ensures.items (first-none c.args.fst.now)

pub loop-state-preserved : goal.loop-state-preserved
loop-state-preserved g c =
    rw c.in_ok-push.ensures.items
    (first-more c.args.fst.now c.loop-state.sets.items c.loop-state.state c.new-set.result c.add_targets.new.targets c.loop-state.invariant c.new-set.ensures c.add_targets.ensures)

pub returns : goal.returns
returns g c = first-all g.row.W c.args.fst.now c.loop-state.sets.items c.loop-state.state c.loop-state.invariant (omega arith) c.requires.room
