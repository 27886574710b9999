-- Lists as nodes, each behind an earlier one.
use Rattle.std.specs.Prelude.{◌≡◌, ℕ, ◌+◌, ◌≤◌, ◌<◌, List, [], ◌∷◌, ◌++◌, Some, length, map, slice_get, slice_index_or}
use Rattle.mine_model.specs.Names.{AreDistinct}
use Rattle.open_addressing.specs.Table.{IsTable}
use Rattle.prefix_counts.specs.declared.node.Node.{Node}
use Rattle.prefix_counts.specs.declared.table.Slot.{Slot}
use Rattle.prefix_counts.specs.Prefixes.{Prefixes}
use Rattle.prefix_counts.specs.Table.{key_of, layout, pairs_of}

-- the list of a node, where those of the earlier ones are these
abbrev pub list_behind : List (List ℕ) → Node → List ℕ
list_behind lists node = slice_index_or lists node.parent [] ++ node.rank ∷ []

-- the lists with those of nodes behind them
abbrev pub lists_with : List (List ℕ) → List Node → List (List ℕ)
lists_with lists [] = lists
lists_with lists (node ∷ nodes) = lists_with (lists ++ list_behind lists node ∷ []) nodes

-- the empty list has the number 0, and that of a node the node's number counted from 1
abbrev pub lists_of : List Node → List (List ℕ)
lists_of nodes = lists_with ([] ∷ []) nodes

abbrev pub sums_of : List Node → List ℕ
sums_of nodes = 0 ∷ map (λ node. node.sum) nodes

abbrev pub prefixes_of : List Node → Prefixes
prefixes_of nodes = record { lists = lists_of nodes; sums = sums_of nodes }

-- what the fields hold: nodes behind earlier ones, with different lists, and a table of them
pub record AreNodes (nodes : List Node) (slots : List Slot) : Type 0 where
  pub before : (number : ℕ) (node : Node) → slice_get nodes number ≡ Some node → node.parent ≤ number
  pub each : (number : ℕ) (node : Node) → slice_get nodes number ≡ Some node
      → slice_index_or (lists_of nodes) (number + 1) [] ≡ list_behind (lists_of nodes) node
  pub distinct : AreDistinct (lists_of nodes)
  pub few : length nodes ≤ 4294967294
  pub table : IsTable layout (map key_of (pairs_of nodes)) slots

-- the list with this number is that of the node, whose parent comes before, and the sum is the node's
pub record IsNodeOf (prefixes : Prefixes) (number : ℕ) (node : Node) : Type 0 where
  pub before : node.parent < number
  pub list : (list : List ℕ) → slice_get prefixes.lists node.parent ≡ Some list
      → slice_get prefixes.lists number ≡ Some (list ++ node.rank ∷ [])
  pub sum : slice_get prefixes.sums number ≡ Some node.sum
