use Rattle.walk_memo.specs.Moves.{move_sets}
use Rattle.walk_memo.proofs.ActionLemmas.{IsWrittenSoFar}
use Rattle.walk_memo.proofs.writing.push_actions.Given as goal

abbrev pub invariant-loop-state : goal.invariant-loop-state
invariant-loop-state g l = IsWrittenSoFar l.targets (move_sets l.movement) l.yielded l.state-iterator l.initial.actions.items l.actions.items
