-- What a clause says of a lock and of its passes.
use Rattle.std.specs.Prelude.{◌≡◌, ℕ, [], List, map, length, slice_get, Some, All}
use Rattle.turn_lock.specs.declared.lock.Pass.{Pass}
use Rattle.turn_lock.specs.declared.lock.TurnLock.{TurnLock}
use Rattle.turn_lock.specs.History.{Part, entries_made}

module _ {T : Type 0} where
  abbrev pub number : Pass T → ℕ
  number pass = pass.number

  -- the entries of the changes that the pass made, in their order
  abbrev pub made : Pass T → List (List ℕ)
  made pass = entries_made pass.seat.me.0.parts

  -- they have made nothing, and each is numbered by its place
  abbrev pub AreFresh : List (Pass T) → Type 0
  AreFresh passes = (k : ℕ) (p : Pass T) → slice_get passes k ≡ Some p → (number p ≡ k) × (made p ≡ [])

  -- each pass with its number, and what it made
  abbrev pub parts_of : List (Pass T) → List Part
  parts_of passes = map (λ p. (number p, made p)) passes

module _ {T G : Type 0} where
  -- the value with which the lock was made
  abbrev pub opened_with : TurnLock T G → T
  opened_with lock = lock.table.shared.key.value.value

  -- how many passes the lock has
  abbrev pub pass_count : TurnLock T G → ℕ
  pass_count lock = lock.table.shared.key.passes

  -- it is a pass of this lock
  abbrev pub IsPassOf : TurnLock T G → Pass T → Type 0
  IsPassOf lock pass = (pass.seat.table_id ≡ lock.table.shared.table_id)
      × (pass.seat.me.0.start ≡ Some (opened_with lock))

  -- they are all the passes of this lock
  pub record AreAllPasses (lock : TurnLock T G) (passes : List (Pass T)) : Type 0 where
    pub each : All (IsPassOf lock) passes
    pub all : length passes ≡ pass_count lock
