-- A check of a proof file, line by line.
use Rattle.std.specs.Prelude.{◌≡◌, ℕ, ◌⊎◌, List, [], ◌∷◌, ◌++◌}
use Rattle.std.specs.List.{AllByRecursion}
use Rattle.mine_model.specs.declared.row.Row.{Row}
use Rattle.mining_job.specs.Problems.{Problem}
use Rattle.pattern_proof.specs.ProofLines.{Cited, Entry, SaysRow, SaysPath}
use Rattle.pattern_proof.specs.Proofs.{IsInRange, IsEnough, AreGoodPaths, RowsRise}
use Rattle.pattern_proof.specs.Judging.{IsBehind, IsNextPath}

-- the row is one that may be taken, and the paths are good for it; they may weigh too little yet
pub record IsUnder (problem : Problem) (entry : Entry) : Type 0 where
  pub range : IsInRange problem entry.row
  pub paths : AreGoodPaths problem entry

-- the last of the entries, if there is one, has the property
abbrev pub OfLast : (Entry → Type 0) → List Entry → Type 0
OfLast P entries = (earlier : List Entry) (last : Entry) → entries ≡ earlier ++ last ∷ [] → P last

-- the entries are good so far: only of the last one the paths may weigh too little
pub record AreSoFar (problem : Problem) (names : List (List ℕ)) (entries : List Entry) : Type 0 where
  pub rise : RowsRise names entries
  pub under : AllByRecursion (IsUnder problem) entries
  pub enough : (earlier : List Entry) (last : Entry) → entries ≡ earlier ++ last ∷ []
      → AllByRecursion (IsEnough problem) earlier

-- a line is taken as one more row, and closes the entry before it
pub record TakesRow (problem : Problem) (names : List (List ℕ)) (before : List Entry) (text : List ℕ)
    (after : List Entry) : Type 0 where
  pub row : Row
  pub says : SaysRow names text row
  pub range : IsInRange problem row
  pub behind : IsBehind names before row
  pub closed : OfLast (IsEnough problem) before
  pub added : after ≡ before ++ (record { row = row; paths = [] }) ∷ []

-- a line is taken as one more path of the last entry
pub record TakesPath (problem : Problem) (before : List Entry) (text : List ℕ) (after : List Entry)
    : Type 0 where
  pub earlier : List Entry
  pub last : Entry
  pub path : Cited
  pub cut : before ≡ earlier ++ last ∷ []
  pub says : SaysPath text path
  pub next : IsNextPath problem last path
  pub added : after ≡ earlier ++ (record last { paths = last.paths ++ path ∷ [] }) ∷ []

abbrev pub Takes : Problem → List (List ℕ) → List Entry → List ℕ → List Entry → Type 0
Takes problem names before text after =
    TakesRow problem names before text after ⊎ TakesPath problem before text after

-- the lines are taken, one after another
abbrev pub TakesAll : Problem → List (List ℕ) → List Entry → List (List ℕ) → List Entry → Type 0
TakesAll problem names before [] after = after ≡ before
TakesAll problem names before (text ∷ lines) after = (between : List Entry)
    × Takes problem names before text between × TakesAll problem names between lines after
