use Rattle.std.proofs.Common.{◌≡◌, ◌+◌, All, IfOk, vec_len}
use Rattle.turn_lock.specs.Passes.{IsPassOf}
use Rattle.structure_tests.proofs.turns.taken_back.Given as goal

abbrev pub invariant-loop-result : goal.invariant-loop-result
invariant-loop-result l =
    All (λ r. IfOk r (λ p. IsPassOf l._lock p)) l.results.items
    × All (IsPassOf l._lock) l.passes.items
    × (vec_len l.results + vec_len l.passes ≡ vec_len l.fn.results)

abbrev pub decreases-loop-result : goal.decreases-loop-result
decreases-loop-result l = vec_len l.results
