-- Lists with sums, and how many of them the memory holds that was taken.
use Rattle.std.specs.Prelude.{◌≡◌, ℕ, ◌+◌, ◌≤◌, List, map, length}
use Rattle.open_addressing.specs.Table.{IsTable}
use Rattle.pattern_counts.specs.declared.table.Slot.{Slot}
use Rattle.pattern_counts.specs.Tally.{Tally, IsTally}
use Rattle.flat_lists.specs.Shelf.{elements_of}
use Rattle.pattern_counts.specs.Hashes.{hash_of}
use Rattle.pattern_counts.specs.Table.{layout}

pub record Counted : Type 0 where
  pub tally : Tally
  pub most_lists : ℕ
  pub most_ranks : ℕ

-- the memory holds so many more lists, with so many more ranks in all
pub record HasRoom (counted : Counted) (lists ranks : ℕ) : Type 0 where
  pub for_lists : length counted.tally.lists + lists ≤ counted.most_lists
  pub for_ranks : elements_of counted.tally.lists + ranks ≤ counted.most_ranks

-- what the fields hold: the hashes of the lists, and a table of them
pub record AreCounts (tally : Tally) (hashes : List ℕ) (slots : List Slot) : Type 0 where
  pub are : IsTally tally
  pub few : length tally.lists ≤ 4294967295
  pub hashed : hashes ≡ map hash_of tally.lists
  pub table : IsTable layout hashes slots
