-- The edges of a transducer, state by state.
use Rattle.std.specs.Prelude.{◌≡◌, ℕ, ◌+◌, ◌<◌, ◌≤◌, ◌⊎◌, ◌↔◌, false, List, [], map, length, slice_index, slice_index_or, All, Contains}
use Rattle.state_bits.specs.Members.{Has}
use Rattle.mine_model.specs.declared.item.Item.{Item}
use Rattle.mine_model.specs.Expression.{Tree, unfolded_leaves}
use Rattle.fst_compile.specs.Shape.{unfold_tree}
use Rattle.fst_compile.specs.Positions.{CanBeEmpty, First, Last, Follows}
use Rattle.fst_compile.specs.Rows.{HasEdge}
use Rattle.fst_compile.specs.declared.edge.Edge.{Edge}
use Rattle.fst_compile.specs.declared.edge.Label.{Label}
use Rattle.fst_compile.specs.Transducer.{Enters, target, RisesByTarget}

-- edges of a state, which carry these labels
pub record IsRow (labels : List Label) (edges : List Edge) : Type 0 where
  pub rising : RisesByTarget edges
  pub labelled : (edge : Edge) → Contains edges edge → Enters labels edge

-- the edges lead to the members of this set
abbrev pub LeadTo : ℕ → List Edge → Type 0
LeadTo row edges = (k : ℕ) → Contains (map target edges) k ↔ Has row k

-- the edges of the first so many states, which lead to the members of these sets
pub record AreRowsOf (labels : List Label) (rows : List ℕ) (edges : List (List Edge))
    (index : ℕ) : Type 0 where
  pub count : length edges ≡ index
  pub are : All (IsRow labels) edges
  pub exact : (state : ℕ) → state < index → LeadTo (slice_index rows state) (slice_index_or edges state [])

-- the edges between all states of the tree, and its final states
pub record IsWhole (tree : Tree Item) (rows : List ℕ) (finals : ℕ) : Type 0 where
  pub edges : (from to : ℕ) → HasEdge rows from to ↔ (((from ≡ 0) × First (unfold_tree tree false) 1 to)
      ⊎ Follows (unfold_tree tree false) 1 from to)
  pub ends : (state : ℕ) → Has finals state ↔ (((state ≡ 0) × CanBeEmpty (unfold_tree tree false))
      ⊎ Last (unfold_tree tree false) 1 state)
  pub targets : (from to : ℕ) → HasEdge rows from to → (0 < to) × (to ≤ unfolded_leaves tree)
  pub end_states : (state : ℕ) → Has finals state → state ≤ unfolded_leaves tree
  pub long : length rows ≡ unfolded_leaves tree + 1
