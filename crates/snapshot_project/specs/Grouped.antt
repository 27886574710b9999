-- The stands of a prefix, cut by sequence, and what is told of the places where they are.
use Rattle.std.specs.Prelude.{◌≡◌, ℕ, ◌+◌, ◌≤◌, ◌<◌, Bool, Some, if◌then◌else◌, List, [], ◌∷◌, length, Contains, slice_get, slice_index}
use Rattle.mine_model.specs.declared.item.Item.{Item}
use Rattle.mine_model.specs.Database.{sequence_at}
use Rattle.walk_memo.specs.Moves.{MoveSets}
use Rattle.walk_places.specs.declared.places.Record.{Record}
use Rattle.place_walk.specs.declared.stand.Stand.{Stand}
use Rattle.place_walk.specs.Courses.{Course}
use Rattle.stand_sums.specs.Sequences.{weight_at}
use Rattle.sequence_grids.specs.Grids.{GridList, items_at}
use Rattle.place_records.specs.Records.{start_of}
use Rattle.snapshot_project.specs.declared.snapshot.Snapshot.{Snapshot}
use Rattle.snapshot_project.specs.Stands.{IsGroupOf}
use Rattle.snapshot_project.specs.Walks.{AreGroupOf}

-- what paths walk over that need not write what is needed, or have to
abbrev pub course_for : List ℕ → List Record → List MoveSets → List MoveSets → Bool → Course
course_for rows places early late goes =
    record { rows = rows; moves = if goes then late else early; places = places }

-- the stands are those of the prefix's snapshots in the sequence of the grid
abbrev pub IsGroupIn : GridList → List Item → Bool → ℕ → List Stand → Type 0
IsGroupIn part prefix seen grid group =
    (here : List Snapshot) × IsGroupOf part grid here group
    × AreGroupOf part.problem part.bound (items_at part grid) prefix seen here

-- so in each of these grids
abbrev pub AreGroupsIn : GridList → List Item → Bool → List ℕ → List (List Stand) → Type 0
AreGroupsIn part prefix seen [] [] = Unit {0}
AreGroupsIn part prefix seen [] (group ∷ groups) = ⊥
AreGroupsIn part prefix seen (grid ∷ grids) [] = ⊥
AreGroupsIn part prefix seen (grid ∷ grids) (group ∷ groups) =
    IsGroupIn part prefix seen grid group × AreGroupsIn part prefix seen grids groups

-- all sequences of the part that have snapshots among these have their grids here
abbrev pub AreAllGrids : GridList → List Snapshot → List ℕ → Type 0
AreAllGrids part snapshots grids =
    (grid : ℕ) (snapshot : Snapshot) → Contains snapshots snapshot
    → slice_get part.sequences grid ≡ Some snapshot.sequence → Contains grids grid

-- each place of a sequence has its weight; where none is told, each weighs 1
abbrev pub AreWeights : GridList → List ℕ → Type 0
AreWeights part weights =
    (grid position : ℕ) → grid < length part.sequences → position ≤ length (items_at part grid)
    → weight_at weights (start_of part grid + position)
    ≡ (sequence_at part.problem.sequences (slice_index part.sequences grid)).weight
