use Rattle.turn_lock.specs.Passes.{IsPassOf}
use Rattle.structure_tests.proofs.turns.count_up.Given as goal

abbrev pub invariant-loop-amount : goal.invariant-loop-amount
invariant-loop-amount g l = IsPassOf l.lock l.pass
