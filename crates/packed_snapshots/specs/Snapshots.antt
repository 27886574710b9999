-- Snapshots in the order of their places.
use Rattle.std.specs.Prelude.{◌≡◌, ◌<◌, ◌≤◌, ◌^◌, List, [], ◌∷◌, ⊤, fold}
use Rattle.packed_snapshots.specs.declared.snapshot.PlainSnapshot.{PlainSnapshot}
use Rattle.packed_snapshots.specs.declared.snapshot.Place.{Place}

abbrev pub place_of : PlainSnapshot → Place
place_of one = record { sequence = one.sequence; position = one.position }

-- the place before the first snapshot
abbrev pub start : Place
start = record { sequence = 0; position = 0 }

-- the place of the last one
abbrev pub last_place : List PlainSnapshot → Place
last_place list = fold (λ _ one. place_of one) start list

-- no earlier sequence, and no earlier position of the same one
pub record IsBehind (before place : Place) : Type 0 where
  pub sequence : before.sequence ≤ place.sequence
  pub position : before.sequence ≡ place.sequence → before.position ≤ place.position

-- each snapshot is behind the one before it, the first behind this place
abbrev pub RisesBehind : Place → List PlainSnapshot → Type 0
RisesBehind before [] = ⊤
RisesBehind before (one ∷ more) = IsBehind before (place_of one) × RisesBehind (place_of one) more

-- a snapshot that the program can hold
pub record IsHeld (one : PlainSnapshot) : Type 0 where
  pub sequence : one.sequence < 2 ^ 32
  pub position : one.position < 2 ^ 16
  pub state : one.state < 2 ^ 16
