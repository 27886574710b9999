-- Keys of names, and what the slots of a table hold of them.
use Rattle.std.specs.Prelude.{ℕ, ◌+◌, ◌*◌, ◌<◌, min, List, [], ◌∷◌, length, take, drop, bit_xor, if◌then◌else◌, nat_le}
use Rattle.std.specs.List.{AllByRecursion}
use Rattle.std.specs.Hash.FoldHasher.{initial, write, finish, folded_multiply}
use Rattle.open_addressing.specs.Table.{Layout}
use Rattle.item_names.specs.declared.keys.Key.{Key}
use Rattle.item_names.specs.declared.table.Slot.{Slot}

-- bytes as one number, the lowest first
abbrev pub number_of : List ℕ → ℕ
number_of [] = 0
number_of (byte ∷ bytes) = byte + 256 * number_of bytes

-- what a slot keeps of a name: the name itself where it has up to 16 bytes, and else its hash
unfoldable pub key_of : List ℕ → Key
key_of name = record {
  low = if nat_le (length name) 16 then number_of (take 8 name) else finish (write initial name);
  high = if nat_le (length name) 16 then number_of (drop 8 name) else 0;
  size = min (length name) 17;
}

-- a number that hangs on each bit of the key
abbrev pub mixed : Key → ℕ
mixed key = folded_multiply (bit_xor key.low key.size) (bit_xor 0x9e37_79b9_7f4a_7c15 key.high)

abbrev pub key_in : Slot → Key
key_in slot = record { low = slot.low; high = slot.high; size = slot.size }

-- the slots hold the numbers of names, and their keys
abbrev pub layout : Layout Key Slot
layout = record {
  held = λ slot. slot.held;
  key_in = key_in;
  hash_of = mixed;
  free = record { low = 0; high = 0; size = 0; held = 0 };
}

-- names of bytes
abbrev pub AreBytes : List ℕ → Type 0
AreBytes name = AllByRecursion (λ byte. byte < 256) name
