-- What the rooms of a worker keep.
use Rattle.std.specs.Prelude.{◌≡◌, ◌≢◌, ℕ, ◌+◌, ◌*◌, ◌^◌, ◌≤◌, ◌<◌, nat_lt, Bool, false, not, ◌||◌, ◌&&◌, ◌==◌, ◌⊎◌, IsTrue, if◌then◌else◌, Some, List, [], ◌∷◌, ◌++◌, map, fold, length, AllPairs, Contains, slice_get, slice_index, slice_range}
use Rattle.std.specs.List.{list_any}
use Rattle.place_walk.specs.declared.visit.Visit.{Visit}
use Rattle.place_walk.specs.declared.stand.Stand.{Stand}
use Rattle.stand_sums.specs.declared.aim.Aim.{Aim}
use Rattle.stand_sums.specs.declared.next_rank.NextRank.{NextRank}
use Rattle.stand_sums.specs.declared.sum.Sum.{Sum}
use Rattle.stand_sums.specs.declared.sum.Counted.{Counted}
use Rattle.stand_sums.specs.declared.shelf.Shelf.{Shelf}
use Rattle.stand_sums.specs.Writings.{Ranks, opens, ends}
use Rattle.stand_sums.specs.Sums.{Tally}
use Rattle.stand_sums.specs.Files.{Filed, stand_at}

-- a sequence ends at the next mark, or where the visits do
pub record IsSequenceEnd (visits : List Visit) (from end : ℕ) : Type 0 where
  pub some : from < end
  pub within : end ≤ length visits
  pub here : (k : ℕ) (visit : Visit) → from < k → k < end → slice_get visits k ≡ Some visit
      → visit.first ≡ false
  pub next : (visit : Visit) → slice_get visits end ≡ Some visit → IsTrue visit.first

-- ---- sums

-- the sum without the numbers of sequences
abbrev pub tally_of : Sum → Tally
tally_of sum =
    record { weight = sum.weight; support = sum.support; longer = sum.longer; stands = sum.stands }

-- no visit was met
abbrev pub nothing : Sum
nothing = record {
  followed = 0;
  ended = 0;
  opened = 0;
  stands = 0;
  weight = 0;
  support = 0;
  longer = 0;
}

-- a part of a sum that was last added to in this sequence, with the weight of the next where that counts
abbrev pub once : Bool → Counted → ℕ → ℕ → ℕ
once counts counted last sum =
    if counts then (if nat_lt last counted.number then sum + counted.weight else sum) else sum

-- in which sequence it was then last added to
abbrev pub latest : Bool → Counted → ℕ → ℕ
latest counts counted last = if counts then counted.number else last

-- the sum of a rank behind a visit, which writes it and goes on or not, and ends or not
abbrev pub met : Counted → Bool → Bool → Sum → Sum
met counted opening ending sum = record {
  followed = latest (opening || ending) counted sum.followed;
  ended = latest ending counted sum.ended;
  opened = latest opening counted sum.opened;
  stands = if opening then sum.stands + 1 else sum.stands;
  weight = once (opening || ending) counted sum.followed sum.weight;
  support = once ending counted sum.ended sum.support;
  longer = once opening counted sum.opened sum.longer;
}

-- the rank is among these
abbrev pub is_among : ℕ → List ℕ → Bool
is_among rank ranks = list_any (λ other. other == rank) ranks

-- the sum of the rank behind a visit that writes these ranks, and goes on and ends with those that pass
abbrev pub behind_ranks : (ℕ → Bool) → (ℕ → Bool) → Counted → ℕ → List ℕ → Sum → Sum
behind_ranks opening ending counted rank ranks sum =
    met counted (is_among rank ranks && opening rank) (is_among rank ranks && ending rank) sum

-- the sum of the rank behind a visit of the sequence
abbrev pub behind_visit : Ranks → Aim → Counted → ℕ → Sum → Visit → Sum
behind_visit ranks aim counted rank sum visit =
    met counted (opens ranks aim rank visit) (ends ranks aim rank visit) sum

-- behind all these visits of it
abbrev pub behind_visits : Ranks → Aim → Counted → ℕ → Sum → List Visit → Sum
behind_visits ranks aim counted rank sum visits = fold (behind_visit ranks aim counted rank) sum visits

-- no part was added to more often than sequences were counted
pub record IsSum (number : ℕ) (sum : Sum) : Type 0 where
  pub followed : sum.followed ≤ number
  pub ended : sum.ended ≤ number
  pub opened : sum.opened ≤ number
  pub weight : sum.weight ≤ sum.followed * 2 ^ 32
  pub support : sum.support ≤ sum.ended * 2 ^ 32
  pub longer : sum.longer ≤ sum.opened * 2 ^ 32

-- the sums of all ranks, and which of them were met, each once
pub record AreSums (number : ℕ) (sums : List Sum) (touched : List ℕ) : Type 0 where
  pub right : (rank : ℕ) (sum : Sum) → slice_get sums rank ≡ Some sum → IsSum number sum
  pub known : (rank : ℕ) → Contains touched rank
      → (sum : Sum) × (slice_get sums rank ≡ Some sum) × (0 < sum.followed)
  pub rest : (rank : ℕ) (sum : Sum) → slice_get sums rank ≡ Some sum
      → (sum ≡ nothing) ⊎ Contains touched rank
  pub once : AllPairs (λ one other. one ≢ other) touched

-- the places of each rank, from 0 on, moved behind those of the one before
abbrev pub moved : ℕ → List NextRank → List NextRank
moved from [] = []
moved from (next ∷ others) =
    record next { first = from; last = from + next.last } ∷ moved (from + next.last) others

-- ---- files

-- what is filed of a shelf in the run
abbrev pub filed_in : List Stand → Shelf → Filed
filed_in run shelf = record {
  rank = shelf.rank;
  first = shelf.first;
  last = shelf.last;
  stands = slice_range run shelf.first shelf.next;
}

-- the shelves lie one behind another before the end, and each is filled from its front
abbrev pub AreShelved : ℕ → List Shelf → ℕ → Type 0
AreShelved from [] end = from ≤ end
AreShelved from (shelf ∷ others) end =
    (shelf.first ≡ from) × (from ≤ shelf.next) × (shelf.next ≤ shelf.last) × AreShelved shelf.last others end

-- each shelf is found by its rank
abbrev pub ArePlaced : List ℕ → List Shelf → Type 0
ArePlaced places shelves =
    (k : ℕ) (shelf : Shelf) → slice_get shelves k ≡ Some shelf
    → (shelf.rank < length places) × (slice_index places shelf.rank ≡ k)

pub record AreFiles (places : List ℕ) (shelves : List Shelf) (run : List Stand) : Type 0 where
  pub placed : ArePlaced places shelves
  pub shelved : AreShelved 0 shelves (length run)

-- what is filed of a shelf, and where the last sequence ends of which there is a stand
pub record Filing : Type 0 where
  pub filed : Filed
  pub end : ℕ

abbrev pub filing_in : List Stand → Shelf → Filing
filing_in run shelf = record { filed = filed_in run shelf; end = shelf.end }

-- those of all shelves
abbrev pub filings_in : List Stand → List Shelf → List Filing
filings_in run shelves = map (filing_in run) shelves

-- with a stand behind the visit, the first of the sequence that ends there or not
abbrev pub with_stand : Visit → ℕ → Filing → Filing
with_stand visit end filing = record {
  filed = record filing.filed {
    stands = filing.filed.stands ++ stand_at (not (filing.end == end)) visit ∷ [];
  };
  end = end;
}

-- the rank has places
abbrev pub is_kept : Filed → Bool
is_kept filed = nat_lt filed.first filed.last

-- behind a visit that writes the rank and goes on
abbrev pub filed_for : ℕ → Visit → ℕ → Filing → Filing
filed_for rank visit end filing =
    if filing.filed.rank == rank && is_kept filing.filed then with_stand visit end filing else filing

-- behind a visit
abbrev pub filed_behind : Ranks → Aim → ℕ → Filing → Visit → Filing
filed_behind ranks aim end filing visit =
    if opens ranks aim filing.filed.rank visit && is_kept filing.filed
    then with_stand visit end filing
    else filing

-- behind all these visits of a sequence
abbrev pub filed_behind_all : Ranks → Aim → ℕ → List Visit → Filing → Filing
filed_behind_all ranks aim end visits filing = fold (filed_behind ranks aim end) filing visits

-- the shelf, of which nothing is filed yet
abbrev pub empty_shelf : NextRank → Shelf
empty_shelf next =
    record { rank = next.rank; first = next.first; next = next.first; last = next.last; end = 0 }

-- of which no stand of a sequence of these visits is filed
abbrev pub older : Shelf → Shelf
older shelf = record shelf { end = 0 }

-- one place more of it is taken, for the sequence that ends there
abbrev pub filled : Shelf → ℕ → Shelf
filled shelf end = record shelf { next = shelf.next + 1; end = end }

-- where it is that of the rank and has places, one is free
abbrev pub HasRoomFor : ℕ → Shelf → Type 0
HasRoomFor rank shelf = shelf.rank ≡ rank → shelf.first < shelf.last → shelf.next < shelf.last
