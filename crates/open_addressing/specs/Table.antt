-- How a table of open addressing finds the number of a key: from the home of the key on, round all slots,
-- up to a free one.
use Rattle.std.specs.Prelude.{◌≡◌, ℕ, ◌+◌, ◌-◌, ◌<◌, ◌≤◌, min, List, length, slice_index_or, bit_and}
use Rattle.std.specs.List.{sum_by}
use Rattle.open_addressing.specs.Slots.{IsMet}

-- where a search for a key with this hash begins, among so many slots
unfoldable pub home_of : ℕ → ℕ → ℕ
home_of count hash = bit_and hash (count - 1)

-- what stands in the slots of a table: keys, and their numbers counted from 1, 0 in a slot that is free
pub record Layout (Key Slot : Type 0) : Type 0 where
  pub held : Slot → ℕ
  pub key_in : Slot → Key
  pub hash_of : Key → ℕ
  pub free : Slot

module _ {Key Slot : Type 0} (layout : Layout Key Slot) where
  -- the key with this number
  abbrev pub key_at : List Key → ℕ → Key
  key_at keys number = slice_index_or keys number (layout.key_in layout.free)

  -- what the slot holds, which is free past the last
  abbrev pub held_at : List Slot → ℕ → ℕ
  held_at slots at = layout.held (slice_index_or slots at layout.free)

  -- the slot is free or has the number and the key of one of these
  pub record IsSlot (keys : List Key) (slot : Slot) : Type 0 where
    pub within : layout.held slot ≤ length keys
    pub key : 0 < layout.held slot → layout.key_in slot ≡ key_at keys (layout.held slot - 1)

  -- a search for a key with this hash meets no free slot before this one
  abbrev pub IsReached : List Slot → ℕ → ℕ → Type 0
  IsReached slots hash at = (other : ℕ) → other < length slots
      → IsMet (home_of (length slots) hash) at other → 0 < held_at slots other

  -- the slot has this number, and a search for a key with this hash meets no free slot before
  pub record IsPlace (slots : List Slot) (hash number at : ℕ) : Type 0 where
    pub within : at < length slots
    pub holds : held_at slots at ≡ number + 1
    pub reached : IsReached slots hash at

  -- each of these keys has a slot, and no other slot is taken
  pub record IsTable (keys : List Key) (table : List Slot) : Type 0 where
    pub slots : (at : ℕ) → IsSlot keys (slice_index_or table at layout.free)
    pub places : (number : ℕ) → number < length keys
        → (at : ℕ) × IsPlace table (layout.hash_of (key_at keys number)) number at
    pub taken : sum_by (λ slot. min (layout.held slot) 1) table ≡ length keys
