-- Snapshots as bytes: this program's own format.
use Rattle.std.specs.Prelude.{ℕ, ◌+◌, ◌*◌, ◌-◌, ◌==◌, if◌then◌else◌, List, [], ◌∷◌, All}
use Rattle.packed_snapshots.specs.declared.snapshot.PlainSnapshot.{PlainSnapshot}
use Rattle.packed_snapshots.specs.declared.snapshot.Place.{Place}
use Rattle.packed_snapshots.specs.Numbers.{AreNumbers}
use Rattle.packed_snapshots.specs.Snapshots.{place_of, start, RisesBehind, IsHeld}

-- its position: less that of the one before it where that has the same sequence
abbrev pub position_step : Place → PlainSnapshot → ℕ
position_step before one =
    if one.sequence == before.sequence then one.position - before.position else one.position

-- twice its state, plus 1 where it has seen
abbrev pub code_of : PlainSnapshot → ℕ
code_of one = 2 * one.state + (if one.seen then 1 else 0)

-- three numbers for each: its sequence less that of the one before it, its position so, and its state
abbrev pub numbers_behind : Place → List PlainSnapshot → List ℕ
numbers_behind before [] = []
numbers_behind before (one ∷ more) = (one.sequence - before.sequence) ∷ position_step before one ∷ code_of one
    ∷ numbers_behind (place_of one) more

-- the bytes of rising snapshots, the first behind this place
pub record IsPackedBehind (before : Place) (list : List PlainSnapshot) (bytes : List ℕ) : Type 0 where
  pub rising : RisesBehind before list
  pub held : All IsHeld list
  pub packed : AreNumbers (numbers_behind before list) bytes

-- the bytes of rising snapshots. The first has its sequence and its position whole
abbrev pub IsPacked : List PlainSnapshot → List ℕ → Type 0
IsPacked = IsPackedBehind start
