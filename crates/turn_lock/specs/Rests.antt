-- A pass between two calls.
use Rattle.std.specs.Prelude.{◌≡◌, ℕ, [], ◌∷◌}
use Rattle.atomic_table.specs.Table.{Me}
use Rattle.turn_lock.specs.declared.hand.Hand.{Hand}
use Rattle.turn_lock.specs.declared.hand.Stage.TheVariants.{Idle}
use Rattle.turn_lock.specs.History.{entries_made}

-- no call is in flight, nothing is out with the seat, and it stands for the one pass of this number
abbrev pub Rests : {T : Type 0} → Me T (Hand T) → ℕ → Type 0
Rests me n = (me.1 ≡ []) × (me.0.stage ≡ Idle) × (me.0.parts ≡ (n, entries_made me.0.parts) ∷ [])
