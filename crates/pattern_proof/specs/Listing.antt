-- Lists of the sequences that may have a pattern.
use Rattle.std.specs.Prelude.{◌≡◌, ◌≢◌, ℕ, ◌+◌, ◌-◌, ◌≤◌, ◌<◌, ◌⊎◌, true, false, Bool, List, [], ◌∷◌, ◌++◌, length, Some, Contains, slice_index}
use Rattle.std.specs.List.{AllByRecursion, slice_get, slice_index_or}
use Rattle.mine_model.specs.declared.item.Item.{Item}
use Rattle.mine_model.specs.declared.row.Row.{Row}
use Rattle.mine_model.specs.Ancestry.{item_at}
use Rattle.mine_model.specs.Generation.{IsPatternOf}
use Rattle.mine_model.specs.Numbered.{tree_of}
use Rattle.mine_model.specs.Support.{HoldsUnder}
use Rattle.mining_job.specs.Problems.{Problem, items_of}
use Rattle.pattern_proof.specs.declared.listing.Listed.{Listed}
use Rattle.pattern_proof.specs.declared.listing.Lister.{Lister}
use Rattle.pattern_proof.specs.declared.listing.Lists.{Lists}

-- the sequence with this number, counted from 0, has the pattern
abbrev pub Has : Problem → List Item → ℕ → Type 0
Has problem pattern place =
    IsPatternOf problem.hierarchy.links (tree_of problem.transducer.expression) (items_of problem place)
    pattern

-- the list that begins with this entry, counted from 1, where 0 stands for none, has these places
abbrev pub IsChain : List Listed → ℕ → List ℕ → Type 0
IsChain listed first [] = first ≡ 0
IsChain listed first (place ∷ places) = (entry : Listed) × (1 ≤ first)
    × (slice_get listed (first - 1) ≡ Some entry) × (entry.place ≡ place) × (entry.next < first)
    × IsChain listed entry.next places

-- each place is less than all later ones
abbrev pub Rise : List ℕ → Type 0
Rise [] = Unit {0}
Rise (place ∷ places) = AllByRecursion (λ other. place < other) places × Rise places

-- the list has all sequences that have the pattern, by rising number
pub record ListsAll (problem : Problem) (listed : List Listed) (first : ℕ) (pattern : List Item)
    : Type 0 where
  pub places : List ℕ
  pub chain : IsChain listed first places
  pub rise : Rise places
  pub within : AllByRecursion (λ place. place < length problem.sequences) places
  pub all : (place : ℕ) → place < length problem.sequences → Has problem pattern place → Contains places place

-- there is such a list for each row
pub record AreLists (problem : Problem) (lists : Lists) (rows : List Row) : Type 0 where
  pub whole : length lists.starts.items ≡ length rows
  pub each : (number : ℕ) (row : Row) → slice_get rows number ≡ Some row
      → ListsAll problem lists.listed.items (slice_index lists.starts.items number) row.pattern

-- the numbers are those of items of the hierarchy, each of which its row has
pub record AreItemsOf (problem : Problem) (rows : List Row) (numbers : List ℕ) : Type 0 where
  pub whole : length numbers ≡ length rows
  pub within : (number : ℕ) → number < length numbers → slice_index numbers number < problem.hierarchy.items
  pub held : (number : ℕ) (row : Row) → slice_get rows number ≡ Some row
      → Contains row.pattern (item_at (slice_index numbers number))

-- What is listed so far

-- where the list of each item begins, by its number, and all sequences that are listed
pub record Fronts : Type 0 where
  pub newest : List ℕ
  pub listed : List Listed

abbrev pub fronts_of : Lister → Fronts
fronts_of lister = record { newest = lister.newest.items; listed = lister.listed.items }

-- the list of the item has places from `least` on alone, and all from `done` on that hold something below it
pub record ListsUnder (problem : Problem) (fronts : Fronts) (least done : ℕ) (w : Item) : Type 0 where
  pub places : List ℕ
  pub chain : IsChain fronts.listed (slice_index fronts.newest w.0) places
  pub rise : Rise places
  pub from : AllByRecursion (λ place. least ≤ place) places
  pub within : AllByRecursion (λ place. place < length problem.sequences) places
  pub all : (place : ℕ) → done ≤ place → place < length problem.sequences
      → HoldsUnder problem.hierarchy.links w (items_of problem place) → Contains places place

-- there is such a list for each item that is marked
pub record AreListed (problem : Problem) (marked : List Bool) (fronts : Fronts) (least done : ℕ)
    : Type 0 where
  pub whole : length fronts.newest ≡ length marked
  pub few : length fronts.listed < 4294967296
  pub heads : (w : ℕ) → slice_index fronts.newest w ≤ length fronts.listed
  pub each : (w : Item) → slice_index_or marked w.0 false ≡ true → ListsUnder problem fronts least done w

-- the item's list begins with the place
pub record BeginsAt (fronts : Fronts) (place : ℕ) (w : Item) : Type 0 where
  pub entry : Listed
  pub some : 1 ≤ slice_index fronts.newest w.0
  pub first : slice_get fronts.listed (slice_index fronts.newest w.0 - 1) ≡ Some entry
  pub is : entry.place ≡ place

-- the item's list, which does not begin with the place, gets it as its first
pub record PutsFirst (old : Fronts) (place : ℕ) (w : Item) (new : Fronts) : Type 0 where
  pub other : BeginsAt old place w → ⊥
  pub whole : length new.newest ≡ length old.newest
  pub others : (v : ℕ) → v ≢ w.0 → slice_index new.newest v ≡ slice_index old.newest v
  pub first : slice_index new.newest w.0 ≡ length old.listed + 1
  pub few : length old.listed + 1 < 4294967296
  pub added : new.listed
      ≡ old.listed ++ (record { place = place; next = slice_index old.newest w.0 }) ∷ []

-- the item's list begins with the place, as before or now
abbrev pub HasFirst : Fronts → ℕ → Item → Fronts → Type 0
HasFirst old place w new = ((new ≡ old) × BeginsAt old place w) ⊎ PutsFirst old place w new
