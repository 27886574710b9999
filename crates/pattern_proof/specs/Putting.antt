-- What a sink and the room in front of it have of a proof.
use Rattle.std.specs.Prelude.{ℕ, ◌<◌, ◌⊎◌, List, ◌++◌, Option, map, length, Contains}
use Rattle.std.specs.List.{AllByRecursion, flat_map}
use Rattle.mine_model.specs.declared.row.Row.{Row}
use Rattle.mining_job.specs.Problems.{Problem}
use Rattle.pattern_writer.specs.Written.{IsHeld, IsCut}
use Rattle.pattern_proof.specs.declared.listing.Listed.{Listed}
use Rattle.pattern_proof.specs.ProofLines.{Cited, Entry, path_line_of, text_of_entry}
use Rattle.pattern_proof.specs.Proofs.{IsGoodPath, RiseByPlace, IsFull}
use Rattle.pattern_proof.specs.Listing.{Has, IsChain, Rise}

-- a row and the paths that are cited for it
abbrev pub entry_of : Row → List Cited → Entry
entry_of row paths = record { row = row; paths = paths }

-- behind the text so far stand all paths of the row
abbrev pub HoldsPaths : Problem → Row → Option (List ℕ) → Option (List ℕ) → List ℕ → List ℕ → Type 0
HoldsPaths problem row before after held front = (paths : List Cited) × IsFull problem (entry_of row paths)
    × IsHeld before after held (front ++ flat_map path_line_of paths)

-- a part of them was handed over, and not all
abbrev pub CutsPaths : Problem → Row → Option (List ℕ) → Option (List ℕ) → List ℕ → Type 0
CutsPaths problem row before after front = (paths : List Cited) × IsFull problem (entry_of row paths)
    × IsCut before after (front ++ flat_map path_line_of paths)

-- behind the text so far stands an entry of the row
abbrev pub HoldsEntry : Problem → List (List ℕ) → Row → Option (List ℕ) → Option (List ℕ) → List ℕ
    → List ℕ → Type 0
HoldsEntry problem names row before after held front =
    (paths : List Cited) × IsFull problem (entry_of row paths)
    × IsHeld before after held (front ++ text_of_entry names (entry_of row paths))

-- a part of it was handed over, and not all
abbrev pub CutsEntry : Problem → List (List ℕ) → Row → Option (List ℕ) → Option (List ℕ) → List ℕ → Type 0
CutsEntry problem names row before after front = (paths : List Cited) × IsFull problem (entry_of row paths)
    × IsCut before after (front ++ text_of_entry names (entry_of row paths))

-- The paths are those over all sequences that have the row's pattern but for the ones that are listed from
-- there on.
pub record ArePathsSoFar (problem : Problem) (listed : List Listed) (row : Row) (at : ℕ)
    (paths : List Cited) (places : List ℕ) : Type 0 where
  pub chain : IsChain listed at places
  pub rise : Rise places
  pub within : AllByRecursion (λ place. place < length problem.sequences) places
  pub good : AllByRecursion (IsGoodPath problem row) paths
  pub paths_rise : RiseByPlace paths
  pub before : AllByRecursion (λ path. AllByRecursion (λ place. path.place < place) places) paths
  pub all : (place : ℕ) → place < length problem.sequences → Has problem row.pattern place
      → Contains places place ⊎ Contains (map (λ path. path.place) paths) place
