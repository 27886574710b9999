-- What a walk over bytes reads.
use Rattle.std.specs.Prelude.{ℕ, ◌+◌, ◌*◌, ◌/◌, ◌%◌, ◌<◌, ◌≤◌, ◌==◌, ◌⊎◌, nat_lt, if◌then◌else◌, List, [], ◌∷◌}
use Rattle.packed_snapshots.specs.declared.snapshot.PlainSnapshot.{PlainSnapshot}
use Rattle.packed_snapshots.specs.declared.snapshot.Place.{Place}
use Rattle.packed_snapshots.specs.Snapshots.{place_of}

-- the number that bytes begin with
abbrev pub number_ahead : List ℕ → ℕ
number_ahead [] = 0
number_ahead (byte ∷ more) = if nat_lt byte 128 then byte else byte % 128 + 128 * number_ahead more

-- the bytes behind it
abbrev pub bytes_behind : List ℕ → List ℕ
bytes_behind [] = []
bytes_behind (byte ∷ more) = if nat_lt byte 128 then more else bytes_behind more

-- it ends, and none of its bytes can be spared
abbrev pub IsAhead : List ℕ → Type 0
IsAhead [] = ⊥
IsAhead (byte ∷ more) = (byte < 128) ⊎ ((128 ≤ byte) × (byte < 256) × IsAhead more × (0 < number_ahead more))

-- a byte that goes on into the number behind it
abbrev pub continued_by : ℕ → List ℕ → List ℕ
continued_by byte [] = []
continued_by byte (number ∷ more) = (byte % 128 + 128 * number) ∷ more

-- all the numbers of bytes
abbrev pub numbers_in : List ℕ → List ℕ
numbers_in [] = []
numbers_in (byte ∷ more) =
    if nat_lt byte 128 then byte ∷ numbers_in more else continued_by byte (numbers_in more)

-- the snapshot of three numbers
abbrev pub snapshot_of : Place → ℕ → ℕ → ℕ → PlainSnapshot
snapshot_of before ahead step code = record {
  sequence = before.sequence + ahead;
  position = if ahead == 0 then before.position + step else step;
  state = code / 2;
  seen = code % 2 == 1;
}

-- the snapshots of numbers
abbrev pub snapshots_behind : Place → List ℕ → List PlainSnapshot
snapshots_behind before (ahead ∷ step ∷ code ∷ more) =
    snapshot_of before ahead step code ∷ snapshots_behind (place_of (snapshot_of before ahead step code)) more
snapshots_behind before _ = []
