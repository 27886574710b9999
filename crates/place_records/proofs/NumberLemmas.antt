-- Numbers of what places do stay right while more of them are given.
use Rattle.std.proofs.Common.{◌≡◌, ◌≢◌, ℕ, ◌+◌, ◌*◌, ◌/◌, ◌%◌, ◌<◌, ◌⊎◌, inl, inr, Bool, List, [], ◌∷◌, length, arith, refl, sym, ◌∙◌}
use Rattle.std.specs.List.{slice_index}
use Rattle.mine_model.proofs.ElementLemmas.{get-left}
use Rattle.mine_model.specs.Lists.{AddsTo}
use Rattle.sequence_grids.specs.Kinds.{Extends}
use Rattle.sequence_grids.specs.Tables.{ClassSets, TripleSets, TableValue, Grows, row, unknown}
use Rattle.sequence_grids.proofs.KindLemmas.{Extends-nothing, Extends-twice}
use Rattle.place_records.specs.Twins.{TwinSets, AreTargets, IsTwinAt, dead_twin}
use Rattle.place_records.specs.Numbers.{TwinsValue, TwinsGrow, AreTwins}

pub IsTwinAt-grow : (states : ℕ) (needed : Bool) (classes : List ClassSets) (triples : List TripleSets) (twins after : List TwinSets) (class behind number : ℕ)
    → IsTwinAt states needed classes triples twins class behind number → Extends twins after → IsTwinAt states needed classes triples after class behind number
IsTwinAt-grow states needed classes triples twins after class behind number (c, t, twin, found_c, found_t, found, is) (more, grown) =
    (c, t, twin, found_c, found_t, (rw grown (get-left twins more number twin found)), is)

pub AreTwins-none : (table : TableValue) (needed : Bool) (targets : ℕ) → AreTargets (length table.predecessors) targets → AreTwins table needed targets (dead_twin ∷ []) []
AreTwins-none table needed targets are = record { targets_are = are; first = refl; numbers_are = λ i none. absurd (omega arith) }

pub AreTwins-grow : (table : TableValue) (needed : Bool) (targets : ℕ) (twins after : List TwinSets) (numbers : List ℕ)
    → AreTwins table needed targets twins numbers → Extends twins after → AreTwins table needed targets after numbers
AreTwins-grow table needed targets twins after numbers are grown = record {
  targets_are = are.targets_are;
  first = let (more, is) = grown in rw is (get-left twins more 0 dead_twin are.first);
  numbers_are = λ i inside some. IsTwinAt-grow (length table.predecessors) needed table.classes table.triples twins after (i % row) (i / row) (slice_index numbers i) (are.numbers_are i inside some) grown;
}

-- the same once a table has grown
pub AreTwins-reach : (table after : TableValue) (needed : Bool) (targets : ℕ) (twins : List TwinSets) (numbers : List ℕ)
    → AreTwins table needed targets twins numbers → Grows table after → AreTwins after needed targets twins numbers
AreTwins-reach table after needed targets twins numbers are grows = record {
  targets_are = rw grows.predecessors are.targets_are;
  first = are.first;
  numbers_are = λ i inside some.
      let (c, t, twin, found_c, found_t, found, is) = are.numbers_are i inside some in
      let (classes, more_classes) = grows.classes in
      let (triples, more_triples) = grows.triples in (
        c,
        t,
        twin,
        (rw more_classes (get-left table.classes classes (i % row) c found_c)),
        (rw more_triples (get-left table.triples triples (i / row) t found_t)),
        found,
        (rw grows.predecessors is),
      );
}

pub AreTwins-keep : (table : TableValue) (needed : Bool) (targets : ℕ) (twins : List TwinSets) (numbers after : List ℕ) (class behind number : ℕ)
    → AreTwins table needed targets twins numbers → IsTwinAt (length table.predecessors) needed table.classes table.triples twins class behind number
    → ((i : ℕ) → i < length after → slice_index after i ≢ unknown
    → (((i ≡ 256 * behind + class) × (class < 256) × (slice_index after i ≡ number)) ⊎ ((i < length numbers) × (slice_index after i ≡ slice_index numbers i))))
    → AreTwins table needed targets twins after
AreTwins-keep table needed targets twins numbers after class behind number are right cases = record {
  targets_are = are.targets_are;
  first = are.first;
  numbers_are = λ i inside some. elim (cases i inside some) [
    | inl (place, first, is) ↦
        let column : i % row ≡ class = omega arith in
        let line : i / row ≡ behind = omega arith in
        rw (column, line, is) right
    | inr (old, is) ↦
        let some_old : slice_index numbers i ≢ unknown = λ same. some (is ∙ same) in
        rw is (are.numbers_are i old some_old)
  ];
}

-- a number that is kept
pub AreTwins-kept : (table : TableValue) (needed : Bool) (targets : ℕ) (twins : List TwinSets) (numbers : List ℕ) (class behind number : ℕ)
    → AreTwins table needed targets twins numbers → class < 256 → 256 * behind + class < length numbers → slice_index numbers (256 * behind + class) ≡ number → number ≢ unknown
    → IsTwinAt (length table.predecessors) needed table.classes table.triples twins class behind number
AreTwins-kept table needed targets twins numbers class behind number are first inside is some =
    let column : (256 * behind + class) % row ≡ class = omega arith in
    let line : (256 * behind + class) / row ≡ behind = omega arith in
    rw (column, line, is) at (are.numbers_are (256 * behind + class) inside (λ same. some (sym is ∙ same)))

pub TwinsGrow-nothing : (value : TwinsValue) → TwinsGrow value value
TwinsGrow-nothing value = record { table = refl; needed = refl; twins = Extends-nothing value.twins }

pub TwinsGrow-twice : (a b c : TwinsValue) → TwinsGrow a b → TwinsGrow b c → TwinsGrow a c
TwinsGrow-twice a b c first second = record {
  table = second.table ∙ first.table;
  needed = second.needed ∙ first.needed;
  twins = Extends-twice a.twins b.twins c.twins first.twins second.twins;
}

pub Extends-added : {X : Type 0} (before after : List X) (x : X) → AddsTo before x after → Extends before after
Extends-added before after x (more, is, _) = (more, is)
