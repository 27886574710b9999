-- Where the sequences of a part begin.
use Rattle.std.specs.Prelude.{◌≡◌, ℕ, ◌≤◌, ◌<◌, ◌^◌, ◌⊎◌, List, [], length, slice_index}
use Rattle.mine_model.specs.Limits.{most_length}
use Rattle.sequence_grids.specs.Grids.{GridList, items_at}
use Rattle.place_records.specs.Records.{start_of}

-- the place of the first item of each sequence, none of which is longer than a position can say
pub record HasStarts (part : GridList) (starts : List ℕ) : Type 0 where
  pub same : length starts ≡ length part.sequences
  pub each : (grid : ℕ) → grid < length part.sequences → slice_index starts grid ≡ start_of part grid
  pub short : (grid : ℕ) → grid < length part.sequences → length (items_at part grid) ≤ most_length
  pub fits : start_of part (length part.sequences) < 2 ^ 32

-- nothing, or these
abbrev pub MayHaveStarts : GridList → List ℕ → Type 0
MayHaveStarts part starts = (starts ≡ []) ⊎ HasStarts part starts
