-- Sets of states as a table keeps them, and the step from the sets of a place to those of the one before it.
use Rattle.std.specs.Prelude.{◌≡◌, ◌≢◌, ℕ, ◌*◌, ◌/◌, ◌%◌, ◌≤◌, ◌<◌, ◌⊎◌, ◌↔◌, Bool, true, false, List, ◌++◌, length, slice_index, slice_get, Some, Contains}
use Rattle.state_bits.specs.Members.{Has}
use Rattle.fst_compile.specs.declared.edge.Edge.{Edge}
use Rattle.fst_compile.specs.Rows.{IsSetOf}
use Rattle.sequence_grids.specs.declared.table.Class.{Class}
use Rattle.sequence_grids.specs.declared.table.Triple.{Triple}

-- the states whose edges match an item and write nothing; those whose edges may write something that is
-- allowed; those whose edges may write what is needed
pub record ClassSets : Type 0 where
  pub silent : ℕ
  pub writes : ℕ
  pub needs : ℕ

-- the states that complete where what is needed was seen, those of them from which something can be written,
-- those that complete where it was not seen, those that end
pub record TripleSets : Type 0 where
  pub seen : ℕ
  pub more : ℕ
  pub unseen : ℕ
  pub ends : ℕ

-- the same, whatever the width of the sets
abbrev pub class_sets : {W : ℕ} → Class W → ClassSets
class_sets class = record { silent = class.silent; writes = class.writes; needs = class.needs }

abbrev pub triple_sets : {W : ℕ} → Triple W → TripleSets
triple_sets triple =
    record { seen = triple.seen; more = triple.more; unseen = triple.unseen; ends = triple.ends }

-- an edge leads from the state to the other one
abbrev pub Precedes : List ℕ → ℕ → ℕ → Type 0
Precedes predecessors q k = Has (slice_index predecessors k) q

-- the edges lead to the state
abbrev pub LeadTo : List Edge → ℕ → Type 0
LeadTo edges k = (edge : Edge) × Contains edges edge × (edge.to.0 ≡ k)

-- an item of the class leads into the state
abbrev pub LeadsInto : ClassSets → ℕ → Type 0
LeadsInto class k = Has class.silent k ⊎ Has class.writes k

-- the triple before an item of the class and the triple after it
pub record IsStep (predecessors : List ℕ) (class : ClassSets) (after before : TripleSets) : Type 0 where
  pub seen : (q : ℕ) → Has before.seen q
      ↔ ((k : ℕ) × Precedes predecessors q k × LeadsInto class k × Has after.seen k)
  pub more : (q : ℕ) → Has before.more q
      ↔ ((k : ℕ) × Precedes predecessors q k
      × ((Has class.silent k × Has after.more k) ⊎ (Has class.writes k × Has after.seen k)))
  pub unseen : (q : ℕ) → Has before.unseen q
      ↔ ((k : ℕ) × Precedes predecessors q k
      × ((LeadsInto class k × Has after.unseen k) ⊎ (Has class.needs k × Has after.seen k)))
  pub ends : (q : ℕ) → Has before.ends q
      ↔ ((k : ℕ) × Precedes predecessors q k × Has class.silent k × Has after.ends k)

-- ---- what a table holds, by number

pub record TableValue : Type 0 where
  pub predecessors : List ℕ
  pub classes : List ClassSets
  pub triples : List TripleSets

-- nothing that had a number lost it
pub record Grows (before after : TableValue) : Type 0 where
  pub predecessors : after.predecessors ≡ before.predecessors
  pub classes : (more : List ClassSets) × (after.classes ≡ before.classes ++ more)
  pub triples : (more : List TripleSets) × (after.triples ≡ before.triples ++ more)

-- the triple with a number stands before an item of the class with a number and the triple with a number
abbrev pub IsStepAt : List ℕ → List ClassSets → List TripleSets → ℕ → ℕ → ℕ → Type 0
IsStepAt predecessors classes triples class after before =
    (c : ClassSets) × (a : TripleSets) × (b : TripleSets)
    × (slice_get classes class ≡ Some c) × (slice_get triples after ≡ Some a)
    × (slice_get triples before ≡ Some b)
    × IsStep predecessors c a b

-- the triple of the end of all sequences
pub record IsLast (finals : ℕ) (triple : TripleSets) : Type 0 where
  pub seen : (q : ℕ) → Has triple.seen q ↔ Has finals q
  pub more : (q : ℕ) → Has triple.more q → ⊥
  pub unseen : (q : ℕ) → Has triple.unseen q → ⊥
  pub ends : (q : ℕ) → Has triple.ends q ↔ Has finals q

-- the members of the sets are below the number
pub record AreBelow (states : ℕ) (class : ClassSets) : Type 0 where
  pub silent : (k : ℕ) → Has class.silent k → k < states
  pub writes : (k : ℕ) → Has class.writes k → k < states
  pub needs : (k : ℕ) → Has class.needs k → k < states

-- how many classes have their steps kept, and what stands for a step that is not known
abbrev pub row : ℕ
row = 256

abbrev pub unknown : ℕ
unknown = 4294967295

-- the steps that are kept, a row for each triple, are right
abbrev pub AreSteps : List ℕ → List ClassSets → List TripleSets → List ℕ → Type 0
AreSteps predecessors classes triples steps =
    (i : ℕ) → i < length steps → slice_index steps i ≢ unknown
    → IsStepAt predecessors classes triples (i % row) (i / row) (slice_index steps i)

pub record IsTable (width : ℕ) (predecessors : List ℕ) (classes : List ClassSets) (triples : List TripleSets)
    (kept : List ℕ) : Type 0 where
  pub room : length predecessors ≤ 64 * width
  pub below : (number : ℕ) (class : ClassSets) → slice_get classes number ≡ Some class
      → AreBelow (length predecessors) class
  pub steps : AreSteps predecessors classes triples kept

-- the class has these states
pub record IsClassOf (class : ClassSets) (silent writes needs : List ℕ) : Type 0 where
  pub silent_is : IsSetOf class.silent silent
  pub writes_is : IsSetOf class.writes writes
  pub needs_is : IsSetOf class.needs needs

-- the states that complete
abbrev pub completing : TripleSets → Bool → ℕ
completing triple true = triple.seen
completing triple false = triple.unseen

-- the states from which something can be written, and what is needed was seen or is written, too
abbrev pub continuing : TripleSets → Bool → ℕ
continuing triple true = triple.more
continuing triple false = triple.unseen
