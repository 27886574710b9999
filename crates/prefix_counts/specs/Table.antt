-- What the slots of a table hold: the numbers of nodes, and their keys.
use Rattle.std.specs.Prelude.{ℕ, ◌*◌, ◌%◌, ◌^◌, List, [], ◌∷◌, map, bit_xor, slice_index_or}
use Rattle.open_addressing.specs.Table.{Layout}
use Rattle.prefix_counts.specs.declared.node.Node.{Node}
use Rattle.prefix_counts.specs.declared.table.Key.{Key}
use Rattle.prefix_counts.specs.declared.table.Slot.{Slot}

-- a number that hangs on each bit of the key
unfoldable pub hash : Key → ℕ
hash key = bit_xor (key.parent * 0x9e37_79b9_7f4a_7c15 % 2 ^ 64) (key.rank * 0x2545_f491_4f6c_dd1d % 2 ^ 64)

-- the keys of nodes as lists: the parent, and the rank
abbrev pub pairs_of : List Node → List (List ℕ)
pairs_of nodes = map (λ node. node.parent ∷ node.rank ∷ []) nodes

abbrev pub key_of : List ℕ → Key
key_of pair = record { parent = slice_index_or pair 0 0; rank = slice_index_or pair 1 0 }

abbrev pub layout : Layout Key Slot
layout = record {
  held = λ slot. slot.held;
  key_in = λ slot. record { parent = slot.parent; rank = slot.rank };
  hash_of = hash;
  free = record { parent = 0; rank = 0; held = 0 };
}
