-- What items may do under a bound, as it is kept once an item was met.
use Rattle.std.specs.Prelude.{◌≡◌, ◌≢◌, ℕ, ◌+◌, ◌≤◌, ◌<◌, ◌⊎◌, ◌↔◌, List, [], ◌++◌, length, slice_index, slice_get, slice_range, Some, None, Option, AllPairs, Contains, IsTrue}
use Rattle.mine_model.specs.declared.item.Item.{Item}
use Rattle.state_bits.specs.Members.{Has}
use Rattle.mining_job.specs.declared.bound.Bound.{Bound}
use Rattle.sequence_grids.specs.declared.columns.Columns.{Columns}
use Rattle.sequence_grids.specs.declared.kinds.Act.{Act}
use Rattle.sequence_grids.specs.declared.kinds.Kind.{Kind}
use Rattle.sequence_grids.specs.declared.kinds.Kinds.{Kinds}
use Rattle.mining_job.specs.Problems.{Problem}
use Rattle.sequence_grids.specs.Grids.{Reads, WritesRank}
use Rattle.sequence_grids.specs.Columns.{AreColumns}
use Rattle.sequence_grids.specs.Tables.{ClassSets, unknown}

-- the rank is the one that is needed; where none is, any is
abbrev pub IsNeededRank : Option ℕ → ℕ → Type 0
IsNeededRank None rank = Unit {0}
IsNeededRank (Some need) rank = rank ≡ need

-- an edge into the state may read t and write something that is allowed
abbrev pub Writes : Problem → Bound → Item → ℕ → Type 0
Writes problem bound t k = (rank : ℕ) × WritesRank problem bound t k rank

-- an edge into the state reads t and writes nothing, or something that is allowed
abbrev pub Goes : Problem → Bound → Item → ℕ → Type 0
Goes problem bound t k = Reads problem t k [] ⊎ Writes problem bound t k

-- an edge into the state may read t and write what is needed
abbrev pub Needs : Problem → Bound → Item → ℕ → Type 0
Needs problem bound t k = (rank : ℕ) × WritesRank problem bound t k rank × IsNeededRank bound.need rank

-- a state that edges lead into
abbrev pub IsTarget : Problem → ℕ → Type 0
IsTarget problem k = (1 ≤ k) × (k ≤ length problem.transducer.labels)

-- the class of the item
pub record IsClassFor (problem : Problem) (bound : Bound) (t : Item) (class : ClassSets) : Type 0 where
  pub silent : (k : ℕ) → IsTarget problem k → Has class.silent k ↔ Reads problem t k []
  pub writes : (k : ℕ) → IsTarget problem k → Has class.writes k ↔ Writes problem bound t k
  pub needs : (k : ℕ) → IsTarget problem k → Has class.needs k ↔ Needs problem bound t k

-- the ranks of a column, between its end and that of the one before
abbrev pub row_at : List ℕ → List ℕ → ℕ → ℕ → List ℕ
row_at ends ranks base column =
    slice_range ranks (slice_index ends (base + column)) (slice_index ends (base + column + 1))

-- the ranks of the column stand where they may be read
pub record IsInside (ends ranks : List ℕ) (base column : ℕ) : Type 0 where
  pub room : base + column + 1 < length ends
  pub forward : slice_index ends (base + column) ≤ slice_index ends (base + column + 1)
  pub within : slice_index ends (base + column + 1) ≤ length ranks

-- the same of all columns below the count
abbrev pub AreRows : List ℕ → List ℕ → ℕ → ℕ → Type 0
AreRows ends ranks base count = (column : ℕ) → column < count → IsInside ends ranks base column

-- the ranks of the column are those that edges into the state may write at t, and they rise
pub record IsCell (problem : Problem) (bound : Bound) (t : Item) (base : ℕ) (ends ranks : List ℕ)
    (column k : ℕ) : Type 0 where
  pub inside : IsInside ends ranks base column
  pub outputs : (rank : ℕ) → Contains (row_at ends ranks base column) rank ↔ WritesRank problem bound t k rank
  pub rising : AllPairs (λ low high. low < high) (row_at ends ranks base column)

-- the same of the columns below the count at their first states, and nothing stands behind them
pub record IsRow (problem : Problem) (bound : Bound) (t : Item) (heads : List ℕ) (base : ℕ)
    (ends ranks : List ℕ) (count : ℕ) : Type 0 where
  pub long : length ends ≡ base + count + 1
  pub last : slice_index ends (base + count) ≡ length ranks
  pub cells : (column : ℕ) → column < count
      → IsCell problem bound t base ends ranks column (slice_index heads column)

-- what edges into the state do at t
pub record IsAct (problem : Problem) (bound : Bound) (t : Item) (k : ℕ) (act : Act) : Type 0 where
  pub silent : IsTrue act.silent ↔ Reads problem t k []
  pub writes : IsTrue act.writes ↔ Writes problem bound t k
  pub needs : IsTrue act.needs ↔ Needs problem bound t k

-- the same of the columns below the count at their first states
pub record AreActs (problem : Problem) (bound : Bound) (t : Item) (heads : List ℕ) (acts : List Act)
    (count : ℕ) : Type 0 where
  pub long : length acts ≡ count
  pub are : (column : ℕ) (act : Act) → slice_get acts column ≡ Some act
      → IsAct problem bound t (slice_index heads column) act

-- the lists have the states below the count into which the item leads
pub record AreEntered (problem : Problem) (bound : Bound) (t : Item) (count : ℕ)
    (silent writes needs : List ℕ) : Type 0 where
  pub silent_are : (k : ℕ) → Contains silent k ↔ ((1 ≤ k) × (k < count) × Reads problem t k [])
  pub writes_are : (k : ℕ) → Contains writes k ↔ ((1 ≤ k) × (k < count) × Writes problem bound t k)
  pub needs_are : (k : ℕ) → Contains needs k ↔ ((1 ≤ k) × (k < count) × Needs problem bound t k)

-- the list stays or grows at its end
abbrev pub Extends : {A : Type 0} → List A → List A → Type 0
Extends {A} before after = (more : List A) × (after ≡ before ++ more)

-- the kind is that of the item
pub record IsKind (problem : Problem) (bound : Bound) (classes : List ClassSets) (columns : Columns)
    (ends ranks : List ℕ) (t : Item) (kind : Kind) : Type 0 where
  pub class : (c : ClassSets) × (slice_get classes kind.class ≡ Some c) × IsClassFor problem bound t c
  pub room : kind.base + length columns.heads.items < length ends
  pub rows : AreRows ends ranks kind.base (length columns.heads.items)
  pub cells : (k : ℕ) → IsTarget problem k
      → IsCell problem bound t kind.base ends ranks (slice_index columns.numbers.items k) k

-- the kind with the number is that of the item
abbrev pub HasKind : Problem → Bound → List ClassSets → Kinds → Item → ℕ → Type 0
HasKind problem bound classes kinds t number =
    (kind : Kind) × (slice_get kinds.kinds.items number ≡ Some kind)
    × IsKind problem bound classes kinds.columns kinds.ends.items kinds.ranks.items t kind

-- the columns are those of the transducer, and the kinds of the items that have one are right
pub record AreKinds (problem : Problem) (bound : Bound) (classes : List ClassSets) (kinds : Kinds)
    : Type 0 where
  pub columns_are : AreColumns problem.transducer.labels kinds.columns.numbers.items kinds.columns.heads.items
  pub all : length kinds.numbers.items ≡ problem.hierarchy.items
  pub right : (t : Item) → t.0 < length kinds.numbers.items → slice_index kinds.numbers.items t.0 ≢ unknown
      → HasKind problem bound classes kinds t (slice_index kinds.numbers.items t.0)

-- the item has the number of a kind
abbrev pub IsMet : Kinds → Item → Type 0
IsMet kinds t = slice_index kinds.numbers.items t.0 ≢ unknown

-- each of the items has one
abbrev pub AreMet : Kinds → List Item → Type 0
AreMet kinds items = (t : Item) → Contains items t → IsMet kinds t

-- no kind is lost
pub record KindsGrow (before after : Kinds) : Type 0 where
  pub columns : after.columns ≡ before.columns
  pub kinds : Extends before.kinds.items after.kinds.items
  pub ends : Extends before.ends.items after.ends.items
  pub ranks : Extends before.ranks.items after.ranks.items

-- the outputs of the kind with the number at the state stand where they may be read
abbrev pub HasCell : Kinds → ℕ → ℕ → Type 0
HasCell kinds number k =
    (kind : Kind) × (slice_get kinds.kinds.items number ≡ Some kind)
    × (k < length kinds.columns.numbers.items)
    × IsInside kinds.ends.items kinds.ranks.items kind.base (slice_index kinds.columns.numbers.items k)
