-- What the counting by sets keeps.
use Rattle.std.specs.Prelude.{◌≡◌, ℕ, ◌+◌, ◌<◌, ◌≤◌, ◌↔◌, ◌⊎◌, if◌then◌else◌, IsTrue, Bool, true, false, Option, Some, None, List, length, replicate, slice_index, slice_range}
use Rattle.state_bits.specs.Members.{Has}
use Rattle.walk_memo.specs.declared.action.Action.{Action}
use Rattle.place_walk.specs.declared.visit.Visit.{Visit}
use Rattle.stand_sums.specs.declared.aim.Aim.{Aim}
use Rattle.stand_sums.specs.declared.next_rank.NextRank.{NextRank}
use Rattle.stand_sums.specs.Writings.{Ranks, goes_on, stops, opens, ends}
use Rattle.stand_sums.specs.Sequences.{HasOne}
use Rattle.stand_sums.specs.Sums.{Tally, empty_tally, stands_among, IsTold}
use Rattle.stand_sums.specs.Kept.{IsSequenceEnd}
use Rattle.mask_sums.specs.declared.masked.Masked.{Masked}
use Rattle.mask_sums.specs.declared.counting.Read.{Read}
use Rattle.mask_sums.specs.Sets.{masked_at}

-- this rank is needed and not yet seen, or none is
abbrev pub lacks : Option ℕ → Aim
lacks need = record { seen = false; need = need }

-- nothing is needed
abbrev pub free : Aim
free = lacks None

-- nothing is needed that is not yet seen
abbrev pub IsSeen : Aim → Type 0
IsSeen aim = IsTrue aim.seen ⊎ (aim.need ≡ None)

-- what is needed and not yet seen
abbrev pub lacking : Aim → Option ℕ
lacking aim = if aim.seen then None else aim.need

-- the rank is one of those that the action writes, and goes on
abbrev pub OpensIn : Aim → Action → ℕ → ℕ → Type 0
OpensIn aim action mask rank = Has mask rank × IsTrue (goes_on aim rank action)

-- the rank is one of those that the action writes, and the prefix with it is a pattern
abbrev pub EndsIn : Aim → Action → ℕ → ℕ → Type 0
EndsIn aim action mask rank = Has mask rank × IsTrue (stops aim rank action)

-- the set has the rank just where one of the visits passes
abbrev pub IsSetOf : (ℕ → Visit → Bool) → List Visit → ℕ → Type 0
IsSetOf test visits set = (rank : ℕ) → Has set rank ↔ HasOne (test rank) visits

-- the sets of the sequence from this place on, and its end
pub record IsRead (ranks : Ranks) (aim : Aim) (visits : List Visit) (from : ℕ) (read : Read) : Type 0 where
  pub end : IsSequenceEnd visits from read.end
  pub opened : IsSetOf (opens ranks aim) (slice_range visits from read.end) read.opened
  pub ended : IsSetOf (ends ranks aim) (slice_range visits from read.end) read.ended

-- one more of each member, and of no other
pub record HasOneMore (IsMember : ℕ → Type 0) (before after : List ℕ) : Type 0 where
  pub members : (rank : ℕ) → rank < 256 → IsMember rank
      → slice_index after rank ≡ slice_index before rank + 1
  pub others : (rank : ℕ) → (IsMember rank → ⊥) → slice_index after rank ≡ slice_index before rank

-- so many more stands of each rank as visits write it and go on
abbrev pub HasStands : Ranks → Aim → List Visit → List ℕ → List ℕ → Type 0
HasStands ranks aim visits before after =
    (rank : ℕ) → rank < 256
    → slice_index after rank ≡ slice_index before rank + stands_among ranks aim rank visits

-- the rank with its sums, and with places from 0 on for all its stands
abbrev pub whole : ℕ → Tally → NextRank
whole rank tally = record {
  rank = rank;
  weight = tally.weight;
  support = tally.support;
  longer = tally.longer;
  first = 0;
  last = tally.stands;
}

-- the rank reaches the least, and has its places from here on
pub record IsNext (least enough rank from : ℕ) (tally : Tally) (next : NextRank) : Type 0 where
  pub named : next.rank ≡ rank
  pub first : next.first ≡ from
  pub reached : least ≤ tally.weight
  pub told : IsTold enough tally next

-- where the rank reaches the least, it is told
abbrev pub IsNextOrNone : ℕ → ℕ → ℕ → ℕ → Tally → Option NextRank → Type 0
IsNextOrNone least enough rank from tally None = tally.weight < least
IsNextOrNone least enough rank from tally (Some next) = IsNext least enough rank from tally next

-- the room of a worker: which ranks there are, and whether sums were counted rank by rank, and by sets
pub record IsRoom (ranks : ℕ) (sums : List Tally) (masked : Masked) (by_ranks by_sets : Bool) : Type 0 where
  pub long : ranks ≡ length sums
  pub not_by_ranks : by_ranks ≡ false → sums ≡ replicate ranks empty_tally
  pub not_by_sets : by_sets ≡ false → (rank : ℕ) → masked_at masked rank ≡ empty_tally
  pub few : by_sets ≡ true → ranks ≤ 256
