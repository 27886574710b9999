-- How a search through the slots of a table ends.
use Rattle.std.specs.Prelude.{◌≡◌, ◌≢◌, ℕ, ◌-◌, ◌<◌, ◌≤◌, List, [], length, slice_get, slice_index_or, Some}
use Rattle.open_addressing.specs.declared.Outcome.{Outcome}
use Rattle.open_addressing.specs.declared.Outcome.TheVariants.{Held, Free, Passed}
use Rattle.open_addressing.specs.Table.{Layout, held_at, IsReached}

module _ {Key Slot : Type 0} (layout : Layout Key Slot) where
  -- the slot is taken by another of these lists
  pub record IsOther (lists : List (List ℕ)) (list : List ℕ) (slot : Slot) : Type 0 where
    pub taken : 0 < layout.held slot
    pub other : slice_index_or lists (layout.held slot - 1) [] ≢ list

  -- all slots from here to there are taken by others
  abbrev pub AreOthers : List (List ℕ) → List Slot → List ℕ → ℕ → ℕ → Type 0
  AreOthers lists slots list from to = (at : ℕ) → from ≤ at → at < to
      → IsOther lists list (slice_index_or slots at layout.free)

  -- a search for the list in the slots from here to there ends so
  abbrev pub SearchEnds : List (List ℕ) → List Slot → List ℕ → ℕ → ℕ → Outcome → Type 0
  SearchEnds lists slots list from to (Held number) = slice_get lists number ≡ Some list
  SearchEnds lists slots list from to Free =
      (at : ℕ) × (from ≤ at) × (at < to) × (held_at layout slots at ≡ 0) × AreOthers lists slots list from at
  SearchEnds lists slots list from to Passed = AreOthers lists slots list from to

  -- from here to there is this free slot, and no free one before
  abbrev pub IsFirstFreeFrom : List Slot → ℕ → ℕ → ℕ → Type 0
  IsFirstFreeFrom slots from to at = (from ≤ at) × (at < to) × (held_at layout slots at ≡ 0)
      × ((other : ℕ) → from ≤ other → other < at → 0 < held_at layout slots other)

  -- a search for a key with this hash meets this free slot, and no free one before
  pub record IsFirstFree (slots : List Slot) (hash at : ℕ) : Type 0 where
    pub within : at < length slots
    pub free : held_at layout slots at ≡ 0
    pub first : IsReached layout slots hash at
