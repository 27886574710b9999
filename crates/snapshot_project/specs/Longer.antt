-- What is told of the prefixes that are longer by one rank.
use Rattle.std.specs.Prelude.{◌≡◌, ◌+◌, ◌≤◌, ℕ, ◌<◌, ◌++◌, ◌∷◌, [], None, List, length, Contains, slice_range}
use Rattle.place_walk.specs.declared.stand.Stand.{Stand}
use Rattle.place_walk.specs.declared.visit.Visit.{Visit}
use Rattle.sequence_grids.specs.Grids.{GridList}
use Rattle.stand_sums.specs.declared.aim.Aim.{Aim}
use Rattle.stand_sums.specs.declared.next_rank.NextRank.{NextRank}
use Rattle.stand_sums.specs.Writings.{Ranks}
use Rattle.stand_sums.specs.Files.{stands_of}
use Rattle.snapshot_project.specs.declared.next_rank.NextRank.{NextRank as Next}
use Rattle.snapshot_project.specs.Aims.{sees}
use Rattle.snapshot_project.specs.Stands.{StandList, IsProjected}

-- a rank that may follow, with its weight and its support
abbrev pub told_of : NextRank → Next
told_of next = record { rank = next.rank; weight = next.weight; support = next.support }

-- what is kept of the prefix with it, whose stands are a piece of the run
abbrev pub kept_of : Aim → List Stand → NextRank → StandList
kept_of aim run next = record {
  seen = sees aim.seen aim.need next.rank;
  support = next.support;
  stands = slice_range run next.first next.last;
  next = None;
  bytes = None;
}

-- so it is told of each of the prefixes with these ranks
abbrev pub AreKept : GridList → Aim → ℕ → List ℕ → List Stand → List NextRank → Type 0
AreKept part aim least ranks run found = (next : NextRank) → Contains found next
    → IsProjected part least (ranks ++ next.rank ∷ []) (kept_of aim run next)

-- it is told of the prefix with the rank
abbrev pub IsKeptOf : GridList → ℕ → List ℕ → NextRank → StandList → Type 0
IsKeptOf part least ranks next list = IsProjected part least (ranks ++ next.rank ∷ []) list

-- the places of a next rank are one for each of its stands in these sequences, or there are none
pub record HasPlaces (ranks : Ranks) (aim : Aim) (all : List (List Visit)) (next : NextRank) : Type 0 where
  pub forward : next.first ≤ next.last
  pub room : next.first < next.last → next.first + length (stands_of ranks aim next.rank all) ≡ next.last

abbrev pub HaveAllPlaces : Ranks → Aim → List (List Visit) → List NextRank → Type 0
HaveAllPlaces ranks aim all found = (next : NextRank) → Contains found next → HasPlaces ranks aim all next

-- what has places has them in the run
abbrev pub IsWithin : List Stand → NextRank → Type 0
IsWithin run next = next.first < next.last → next.last ≤ length run
