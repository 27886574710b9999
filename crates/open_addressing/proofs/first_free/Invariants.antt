use Rattle.std.proofs.Common.{ℕ, ◌≤◌, ◌<◌}
use Rattle.open_addressing.specs.Table.{held_at}
use Rattle.open_addressing.proofs.first_free.Given as goal

abbrev pub invariant-loop-at : goal.invariant-loop-at
invariant-loop-at g l = (other : ℕ) → l.from ≤ other → other < l.at → 0 < held_at g.S.Slot.layout l.slots other
