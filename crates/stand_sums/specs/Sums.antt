-- Weights by rank.
use Rattle.std.specs.Prelude.{◌≡◌, ℕ, ◌+◌, ◌≤◌, ◌<◌, nat_le, Bool, if◌then◌else◌, Some, List, [], ◌∷◌, length, filter, AllPairs, Contains, slice_get}
use Rattle.mine_model.specs.Support.{Sequence, Counts}
use Rattle.place_walk.specs.declared.visit.Visit.{Visit}
use Rattle.stand_sums.specs.declared.aim.Aim.{Aim}
use Rattle.stand_sums.specs.declared.next_rank.NextRank.{NextRank}
use Rattle.stand_sums.specs.Writings.{Ranks, opens, ends, follows}
use Rattle.stand_sums.specs.Sequences.{HasOne, all_weighed}

-- of one rank: what the sequences weigh in which it can follow, those in which the prefix with it is a
-- pattern, and those in which more can follow; and how many visits write it and go on
pub record Tally : Type 0 where
  pub weight : ℕ
  pub support : ℕ
  pub longer : ℕ
  pub stands : ℕ

-- nothing was counted
abbrev pub empty_tally : Tally
empty_tally = record { weight = 0; support = 0; longer = 0; stands = 0 }

-- the sum grows by the weight of each sequence that has a visit that passes, once
abbrev pub Grows : (Visit → Bool) → List (Sequence Visit) → ℕ → ℕ → Type 0
Grows test sequences before after = (n : ℕ) × Counts (HasOne test) sequences n × (after ≡ before + n)

-- how many of the visits write the rank and go on
abbrev pub stands_among : Ranks → Aim → ℕ → List Visit → ℕ
stands_among ranks aim rank visits = length (filter (opens ranks aim rank) visits)

-- the visits of these sequences were counted for the rank
pub record AreCounted (ranks : Ranks) (aim : Aim) (weights : List ℕ) (rank : ℕ) (visits : List Visit)
    (sequences : List (List Visit)) (before after : Tally)
    : Type 0 where
  pub weight : Grows (follows ranks aim rank) (all_weighed weights sequences) before.weight after.weight
  pub support : Grows (ends ranks aim rank) (all_weighed weights sequences) before.support after.support
  pub longer : Grows (opens ranks aim rank) (all_weighed weights sequences) before.longer after.longer
  pub stands : after.stands ≡ before.stands + stands_among ranks aim rank visits

-- room for so many stands: for none where what more follows does not weigh enough
abbrev pub room_for : ℕ → Tally → ℕ
room_for enough tally = if nat_le enough tally.longer then tally.stands else 0

-- the rank comes with its sums, and with places where what more follows weighs enough
pub record IsTold (enough : ℕ) (tally : Tally) (next : NextRank) : Type 0 where
  pub weight : next.weight ≡ tally.weight
  pub support : next.support ≡ tally.support
  pub longer : next.longer ≡ tally.longer
  pub stands : next.last ≡ next.first + room_for enough tally

-- from the first place on each has its places behind those of the one before
abbrev pub AreLaidOut : ℕ → List NextRank → ℕ → Type 0
AreLaidOut from [] end = from ≡ end
AreLaidOut from (next ∷ others) end =
    (next.first ≡ from) × (from ≤ next.last) × AreLaidOut next.last others end

-- exactly the ranks whose weight reaches the least, rising, each with its sums; and the places of the stands
-- of those behind which what more follows weighs enough
pub record AreNext (least enough : ℕ) (tallies : List Tally) (found : List NextRank) : Type 0 where
  pub rising : AllPairs (λ low high. low.rank < high.rank) found
  pub right : (next : NextRank) → Contains found next
      → (tally : Tally) × (slice_get tallies next.rank ≡ Some tally) × (least ≤ tally.weight)
      × IsTold enough tally next
  pub all : (rank : ℕ) (tally : Tally) → 1 ≤ least → slice_get tallies rank ≡ Some tally
      → least ≤ tally.weight → (next : NextRank) × Contains found next × (next.rank ≡ rank)
  pub laid_out : (end : ℕ) × AreLaidOut 0 found end
