-- The places of grids as they are kept: the kind of the item there, and the sets of states by their number.
use Rattle.std.specs.Prelude.{◌≡◌, ℕ, ◌+◌, ◌-◌, ◌≤◌, ◌<◌, ◌↔◌, true, false, List, length, slice_index, slice_get, drop, Some}
use Rattle.mine_model.specs.declared.item.Item.{Item}
use Rattle.state_bits.specs.Members.{Has}
use Rattle.fst_compile.specs.Transducer.{Leads}
use Rattle.mining_job.specs.declared.bound.Bound.{Bound}
use Rattle.sequence_grids.specs.declared.kinds.Kinds.{Kinds}
use Rattle.sequence_grids.specs.declared.places.Place.{Place}
use Rattle.mining_job.specs.Problems.{Problem, items_of}
use Rattle.sequence_grids.specs.Columns.{AreColumns}
use Rattle.sequence_grids.specs.Grids.{Completes, Continues, Ends}
use Rattle.sequence_grids.specs.Tables.{TripleSets, TableValue, Precedes, IsLast}
use Rattle.sequence_grids.specs.Kinds.{HasKind, AreMet, AreKinds}

-- the triple of what may come before the rest
pub record IsTripleOf (problem : Problem) (bound : Bound) (rest : List Item) (triple : TripleSets)
    : Type 0 where
  pub seen : (q : ℕ) → q ≤ length problem.transducer.labels
      → Has triple.seen q ↔ Completes problem bound rest q true
  pub more : (q : ℕ) → q ≤ length problem.transducer.labels
      → Has triple.more q ↔ Continues problem bound rest q true
  pub unseen : (q : ℕ) → q ≤ length problem.transducer.labels
      → Has triple.unseen q ↔ Completes problem bound rest q false
  pub ends : (q : ℕ) → q ≤ length problem.transducer.labels → Has triple.ends q ↔ Ends problem rest q

-- the triple with the number
abbrev pub HasTriple : Problem → Bound → List TripleSets → List Item → ℕ → Type 0
HasTriple problem bound triples rest number =
    (triple : TripleSets) × (slice_get triples number ≡ Some triple) × IsTripleOf problem bound rest triple

-- the table is one of the problem's transducer, and has the triple of the end
pub record IsTableOf (problem : Problem) (table : TableValue) : Type 0 where
  pub states : length table.predecessors ≡ length problem.transducer.labels + 1
  pub edges : (q k : ℕ) → q ≤ length problem.transducer.labels
      → Precedes table.predecessors q k ↔ Leads problem.transducer q k
  pub last : (triple : TripleSets) × (slice_get table.triples 0 ≡ Some triple)
      × IsLast problem.transducer.finals triple

-- the place stands for a position in the items
pub record IsPlaceAt (problem : Problem) (bound : Bound) (table : TableValue) (kinds : Kinds)
    (items : List Item)
    (position : ℕ) (place : Place) : Type 0 where
  pub triple : HasTriple problem bound table.triples (drop position items) place.triple
  pub kind : (t : Item) → slice_get items position ≡ Some t
      → HasKind problem bound table.classes kinds t place.kind

-- the places before the end are those of the items, from the last position to the first
abbrev pub ArePlaces : Problem → Bound → TableValue → Kinds → List Place → ℕ → List Item → Type 0
ArePlaces problem bound table kinds places end items =
    (position : ℕ) → position ≤ length items
    → (position < end) × ((place : Place) × (slice_get places (end - 1 - position) ≡ Some place)
    × IsPlaceAt problem bound table kinds items position place)

-- the places behind the first so many are those of the items, from the last position to this one
pub record AreFilled (problem : Problem) (bound : Bound) (table : TableValue) (kinds : Kinds)
    (places : List Place) (from : ℕ)
    (items : List Item) (position : ℕ) : Type 0 where
  pub inside : position ≤ length items
  pub long : length places + position ≡ from + length items + 1
  pub filled : (p : ℕ) → position ≤ p → p ≤ length items
      → (place : Place) × (slice_get places (from + length items - p) ≡ Some place)
      × IsPlaceAt problem bound table kinds items p place

-- the places before each end are those of the sequence with the number, and the kinds have the columns of the
-- transducer
pub record AreKept (problem : Problem) (bound : Bound) (table : TableValue) (kinds : Kinds)
    (places : List Place)
    (ends sequences : List ℕ) : Type 0 where
  pub table_is : IsTableOf problem table
  pub columns_are : AreColumns problem.transducer.labels kinds.columns.numbers.items kinds.columns.heads.items
  pub long : length ends ≡ length sequences
  pub grids : (index : ℕ) → index < length sequences
      → ArePlaces problem bound table kinds places (slice_index ends index)
      (items_of problem (slice_index sequences index))

-- the same, where the kinds of the items that were met are known
pub record AreGrids (problem : Problem) (bound : Bound) (table : TableValue) (kinds : Kinds)
    (places : List Place)
    (ends sequences : List ℕ) : Type 0 where
  pub kept : AreKept problem bound table kinds places ends sequences
  pub kinds_are : AreKinds problem bound table.classes kinds

-- the table has classes for the kinds, and all items of the first so many sequences have one
pub record IsAlphabetTo (problem : Problem) (bound : Bound) (table : TableValue) (kinds : Kinds) (count : ℕ)
    : Type 0 where
  pub table_is : IsTableOf problem table
  pub kinds_are : AreKinds problem bound table.classes kinds
  pub met : (i : ℕ) → i < count → AreMet kinds (items_of problem i)

-- the same of all sequences
abbrev pub IsAlphabet : Problem → Bound → TableValue → Kinds → Type 0
IsAlphabet problem bound table kinds = IsAlphabetTo problem bound table kinds (length problem.sequences)
