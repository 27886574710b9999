-- What was counted behind a rank, as the sums of the prefix with the rank.
use Rattle.std.specs.Prelude.{ℕ, zero, suc, List, [], ◌∷◌, slice_index}
use Rattle.stand_sums.specs.declared.next_rank.NextRank.{NextRank}
use Rattle.stand_sums.specs.Sums.{Tally}
use Rattle.level_ahead.specs.declared.next_of.NextOf.{NextOf}

-- sums of a rank with which nothing goes on: in each sequence in which it follows the prefix with it ends
abbrev pub last_tally : ℕ → Tally
last_tally count = record { weight = count; support = count; longer = 0; stands = 0 }

-- a rank that is told with such sums has no places
abbrev pub last_told : NextOf → NextRank
last_told next = record {
  rank = next.rank;
  weight = next.count;
  support = next.count;
  longer = 0;
  first = 0;
  last = 0;
}

-- those of so many ranks from this one on
abbrev pub last_tallies : List ℕ → ℕ → ℕ → List Tally
last_tallies counts rank zero = []
last_tallies counts rank (suc ranks) =
    last_tally (slice_index counts rank) ∷ last_tallies counts (suc rank) ranks
