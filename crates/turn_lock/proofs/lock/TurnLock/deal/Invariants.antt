use Rattle.std.proofs.Common.{◌≡◌, ◌-◌, [], length, All, Some}
use Rattle.turn_lock.specs.declared.hand.Stage.TheVariants.{Idle}
use Rattle.turn_lock.specs.Turns.{hand, fresh}
use Rattle.turn_lock.specs.Passes.{IsPassOf, AreFresh, opened_with}
use Rattle.turn_lock.proofs.lock.TurnLock.deal.Given as goal

abbrev pub invariant-loop-number : goal.invariant-loop-number
invariant-loop-number g l =
    (l.first.table_id ≡ l.self.table.shared.table_id)
    × (l.first.me ≡ (hand (Some (opened_with l.self)) (fresh l.number (l.count - l.number)) Idle, []))
    × (length l.passes.items ≡ l.number)
    × All (IsPassOf l.self) l.passes.items
    × AreFresh l.passes.items
