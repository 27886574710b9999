-- Sequences in which ranks follow behind ranks.
use Rattle.std.specs.Prelude.{◌≡◌, ℕ, ◌+◌, ◌<◌, ◌≤◌, nat_lt, Bool, not, ◌&&◌, ◌==◌, ◌↔◌, Option, Some, None, List, [], replicate, AllPairs, Contains, slice_index, map}
use Rattle.mine_model.specs.Support.{Counts}
use Rattle.place_walk.specs.declared.visit.Visit.{Visit}
use Rattle.place_walk.specs.Courses.{Course}
use Rattle.stand_sums.specs.declared.next_rank.NextRank.{NextRank}
use Rattle.stand_sums.specs.Writings.{Ranks}
use Rattle.stand_sums.specs.Sequences.{all_weighed}
use Rattle.level_ahead.specs.declared.next_of.NextOf.{NextOf}
use Rattle.level_ahead.specs.Behind.{FollowsBehind, GoesOnBehind}

-- a rank that is asked about, and by rank in how many sequences each follows behind it
pub record Behind : Type 0 where
  pub rank : ℕ
  pub counts : List ℕ

-- stands of the prefix with the rank are to be filed
abbrev pub has_places : NextRank → Bool
has_places next = nat_lt next.first next.last

-- and it is not that which the prefix lacks: with this one nothing is lacking any more
abbrev pub is_asked : Option ℕ → NextRank → Bool
is_asked None next = has_places next
is_asked (Some need) next = has_places next && not (next.rank == need)

-- nothing was counted behind the rank
abbrev pub nothing_behind : NextRank → Behind
nothing_behind next = record { rank = next.rank; counts = replicate 256 0 }

-- the ranks that are asked about
abbrev pub asked_of : List Behind → List ℕ
asked_of behinds = map (λ behind. behind.rank) behinds

-- what follows behind the rank in these sequences was counted, each sequence once, and nothing goes on there,
-- where the prefix lacks this rank or none
pub record AreAdded (course : Course) (ranks : Ranks) (lacking : Option ℕ) (sequences : List (List Visit))
    (before after : Behind)
    : Type 0 where
  pub same : after.rank ≡ before.rank
  pub counted : (other : ℕ) → other < 256
      → (n : ℕ) × Counts (FollowsBehind course ranks lacking before.rank other) (all_weighed [] sequences) n
      × (slice_index after.counts other ≡ slice_index before.counts other + n)
  pub ended : (here : List Visit) → Contains sequences here
      → GoesOnBehind course ranks lacking before.rank here → ⊥

-- exactly the ranks whose counts reach the least, rising, each with its count
pub record AreReaching (least : ℕ) (counts : List ℕ) (found : List NextOf) : Type 0 where
  pub rising : AllPairs (λ low high. low.rank < high.rank) found
  pub exact : (next : NextOf) → Contains found next
      ↔ ((next.rank < 256) × (next.count ≡ slice_index counts next.rank) × (least ≤ next.count))
