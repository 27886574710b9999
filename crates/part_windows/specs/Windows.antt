-- Windows of sequences: the places at which a pattern within a bound can be written, and what lies between
-- them.
use Rattle.std.specs.Prelude.{◌≡◌, ◌≢◌, ℕ, ◌+◌, ◌≤◌, ◌<◌, ◌⊎◌, ◌↔◌, false, Some, IfSome, List, [], ◌∷◌, ◌++◌, length, take, drop, slice_get, slice_index, slice_range, Contains}
use Rattle.std.specs.List.{AllZip}
use Rattle.state_bits.specs.Members.{Has}
use Rattle.mine_model.specs.declared.item.Item.{Item}
use Rattle.fst_compile.specs.Transducer.{Leads}
use Rattle.mining_job.specs.declared.bound.Bound.{Bound}
use Rattle.mining_job.specs.Problems.{Problem}
use Rattle.sequence_grids.specs.Grids.{Completes, Ends, Reads, WritesRank}
use Rattle.sequence_grids.specs.declared.kinds.Kind.{Kind}
use Rattle.sequence_grids.specs.declared.kinds.Kinds.{Kinds}
use Rattle.sequence_grids.specs.Kinds.{IsTarget, row_at}
use Rattle.sequence_grids.specs.Tables.{ClassSets}

-- edges lead from the state over the items, one for each, to a state that is an end, and write items with
-- these ranks, none of which is above the top
abbrev pub WritesRanks : Problem → Bound → (ℕ → Type 0) → ℕ → List Item → List ℕ → Type 0
WritesRanks problem bound IsEnd state [] ranks = IsEnd state × (ranks ≡ [])
WritesRanks problem bound IsEnd state (t ∷ items) ranks =
    (next : ℕ) × Leads problem.transducer state next
    × ((Reads problem t next [] × WritesRanks problem bound IsEnd next items ranks)
    ⊎ ((rank : ℕ) × (more : List ℕ) × (ranks ≡ rank ∷ more) × WritesRank problem bound t next rank
    × WritesRanks problem bound IsEnd next items more))

-- edges that write nothing lead from the start over the items to the state
abbrev pub IsReached : Problem → Bound → List Item → ℕ → Type 0
IsReached problem bound items state = WritesRanks problem bound (λ q. q ≡ state) 0 items []

-- what is needed is among the ranks
abbrev pub HoldNeeded : Bound → List ℕ → Type 0
HoldNeeded bound ranks = IfSome bound.need (Contains ranks)

-- the place matters: a path over the items whose ranks are within the bound writes there
pub record IsWrittenAt (problem : Problem) (bound : Bound) (items : List Item) (place : ℕ) : Type 0 where
  pub t : Item
  pub state : ℕ
  pub next : ℕ
  pub early : List ℕ
  pub rank : ℕ
  pub late : List ℕ
  pub at : slice_get items place ≡ Some t
  pub before : WritesRanks problem bound (λ q. q ≡ state) 0 (take place items) early
  pub leads : Leads problem.transducer state next
  pub writes : WritesRank problem bound t next rank
  pub behind : WritesRanks problem bound (Has problem.transducer.finals) next (drop (place + 1) items) late
  pub needed : HoldNeeded bound (early ++ rank ∷ late)

-- the items from one place up to another, states in which paths come to the first, and states from which
-- they may go on behind the last
pub record Window : Type 0 where
  pub items : List Item
  pub from : ℕ
  pub to : ℕ
  pub starts : ℕ
  pub ends : ℕ

abbrev pub items_in : Window → List Item
items_in window = slice_range window.items window.from window.to

-- All places that matter are in it. The starts are reached where nothing was written, and those are among
-- them from which a path completes. From the ends, and from no other state, a path goes on to its end behind
-- the window and writes nothing.
pub record IsWindow (problem : Problem) (bound : Bound) (window : Window) : Type 0 where
  pub forward : window.from ≤ window.to
  pub inside : window.to ≤ length window.items
  pub all : (place : ℕ) → IsWrittenAt problem bound window.items place
      → (window.from ≤ place) × (place < window.to)
  pub reached : (q : ℕ) → Has window.starts q
      → IsReached problem bound (take window.from window.items) q
  pub live : (q : ℕ) → IsReached problem bound (take window.from window.items) q
      → Completes problem bound (drop window.from window.items) q false → Has window.starts q
  pub ends : (q : ℕ) → q ≤ length problem.transducer.labels
      → Has window.ends q ↔ Ends problem (drop window.to window.items) q

-- a path from one of the starts over the items in the window writes the ranks and comes to one of the ends,
-- and what is needed is among them
abbrev pub IsWrittenIn : Problem → Bound → Window → List ℕ → Type 0
IsWrittenIn problem bound window ranks =
    (ranks ≢ []) × HoldNeeded bound ranks × ((start : ℕ) × Has window.starts start
    × WritesRanks problem bound (Has window.ends) start (items_in window) ranks)

-- the window of all items
abbrev pub whole_window : Problem → List Item → Window
whole_window problem items = record {
  items = items;
  from = 0;
  to = length items;
  starts = 1;
  ends = problem.transducer.finals;
}

-- edges into each state do the same at both items: they read both and write nothing, or they write the same
-- ranks up to the top
pub record AreOfOneKind (problem : Problem) (bound : Bound) (t u : Item) : Type 0 where
  pub silent : (k : ℕ) → IsTarget problem k → Reads problem t k [] ↔ Reads problem u k []
  pub writes : (k rank : ℕ) → IsTarget problem k
      → WritesRank problem bound t k rank ↔ WritesRank problem bound u k rank

-- the kinds have the same states that are entered in silence, and for each state the same ranks up to the top
pub record AgreeUpTo (problem : Problem) (top : ℕ) (classes : List ClassSets) (kinds : Kinds)
    (one other : Kind) : Type 0 where
  pub silent : (c d : ClassSets) → slice_get classes one.class ≡ Some c
      → slice_get classes other.class ≡ Some d
      → (k : ℕ) → IsTarget problem k → Has c.silent k ↔ Has d.silent k
  pub ranks : (k rank : ℕ) → IsTarget problem k → rank ≤ top
      → Contains (row_at kinds.ends.items kinds.ranks.items one.base
      (slice_index kinds.columns.numbers.items k)) rank
      ↔ Contains (row_at kinds.ends.items kinds.ranks.items other.base
      (slice_index kinds.columns.numbers.items k)) rank

-- an edge leads from one of the states into this one
abbrev pub IsFollower : Problem → ℕ → ℕ → Type 0
IsFollower problem states k = (q : ℕ) × Has states q × Leads problem.transducer q k

-- The windows are alike: edges lead from their starts into the same states, their items are of the same
-- kinds, one by one, and their ends are the same.
pub record AreAlike (problem : Problem) (bound : Bound) (one other : Window) : Type 0 where
  pub followers : (k : ℕ) → IsTarget problem k
      → IsFollower problem one.starts k ↔ IsFollower problem other.starts k
  pub kinds : AllZip (AreOfOneKind problem bound) (items_in one) (items_in other)
  pub ends : (q : ℕ) → q ≤ length problem.transducer.labels → Has one.ends q ↔ Has other.ends q
