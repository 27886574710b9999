-- What is kept of a prefix.
use Rattle.std.specs.Prelude.{◌≤◌, ℕ, Option, Some, None, List, [], ⊤, length, map, slice_range}
use Rattle.std.specs.Arc.{arc_value}
use Rattle.packed_snapshots.specs.declared.snapshot.PlainSnapshot.{PlainSnapshot}
use Rattle.packed_snapshots.specs.Packed.{IsPacked}
use Rattle.place_walk.specs.declared.stand.Stand.{Stand}
use Rattle.snapshot_project.specs.declared.next_rank.NextRank.{NextRank}
use Rattle.snapshot_project.specs.declared.snapshots.Kept.{Kept}
use Rattle.snapshot_project.specs.declared.snapshots.Kept.TheVariants.{Standing, Told, Packed}
use Rattle.snapshot_project.specs.Ahead.{next_of}

-- its stands
abbrev pub stands_in : Kept → List Stand
stands_in (Standing piece) = slice_range (arc_value piece.run).stands piece.first piece.last
stands_in (Told next) = []
stands_in (Packed bytes) = []

-- what follows it, where that is told
abbrev pub next_in : Kept → Option (List NextRank)
next_in (Standing piece) = None
next_in (Told next) = Some (map next_of next.items)
next_in (Packed bytes) = None

-- the bytes of its snapshots, where these are kept
abbrev pub bytes_in : Kept → Option (List ℕ)
bytes_in (Standing piece) = None
bytes_in (Told next) = None
bytes_in (Packed bytes) = Some bytes.items

-- the piece is one of the run, and bytes are those of snapshots
abbrev pub IsKeptWell : Kept → Type 0
IsKeptWell (Standing piece) = (piece.first ≤ piece.last) × (piece.last ≤ length (arc_value piece.run).stands)
IsKeptWell (Told next) = ⊤
IsKeptWell (Packed bytes) = (list : List PlainSnapshot) × IsPacked list bytes.items
