use Rattle.std.proofs.Common.{◌≡◌, ◌++◌, [], vec_len, All, None}
use Rattle.turn_lock.specs.declared.hand.Stage.TheVariants.{Idle}
use Rattle.turn_lock.specs.Turns.{hand}
use Rattle.turn_lock.specs.Passes.{IsPassOf, parts_of}
use Rattle.turn_lock.proofs.lock.TurnLock.gather.Given as goal

abbrev pub invariant-loop-pass : goal.invariant-loop-pass
invariant-loop-pass g l =
    (l.all.table_id ≡ l.self.table.shared.table_id)
    × (l.all.me ≡ (hand None l.all.me.0.parts Idle, []))
    × (parts_of l.passes.items ++ l.all.me.0.parts ≡ parts_of l.fn.passes.items)
    × All (IsPassOf l.self) l.passes.items

abbrev pub decreases-loop-pass : goal.decreases-loop-pass
decreases-loop-pass g l = vec_len l.passes
