-- Tables that grow keep what they say.
use Rattle.std.proofs.Common.{◌≡◌, ◌≢◌, ℕ, zero, suc, ◌+◌, ◌-◌, ◌*◌, ◌/◌, ◌%◌, ◌^◌, ◌<◌, ◌≤◌, ◌⊎◌, ◌↔◌, inl, inr, Bool, true, not, cond, List, [], ◌∷◌, ◌++◌, map, length, get_or, arith, refl, sym, ap, ◌∙◌, Some, ◌&&◌, append_assoc}
use Rattle.std.specs.Bool.{◌==◌}
use Rattle.std.specs.List.{All, Contains, slice_get, slice_index, list_any}
use Rattle.std.proofs.lemmas.List.{get_or_append_left, append-nil, length-append, length-map, get_or-append-add}
use Rattle.std.proofs.lemmas.List.Elements.{All-contains}
use Rattle.std.proofs.lemmas.Option.{slice_get_within, get_or_from_slice_get, slice_get_read, slice_get-map}
use Rattle.std.proofs.lemmas.Bool.{cases_lt, cases_Bool, and_parts, eqb-true, true≢false}
use Rattle.indexmap.specs.IndexSet.{insert_key}
use Rattle.mine_model.proofs.ListLemmas.{Contains-none}
use Rattle.mine_model.proofs.ElementLemmas.{get-left}
use Rattle.mine_model.specs.Lists.{AddsTo}
use Rattle.std.specs.Int.{bit_at}
use Rattle.std.proofs.lemmas.Nat.Bits.{bit_at_cat_low, bit_at_cat_high}
use Rattle.state_bits.specs.Members.{Has, HasBit, words_of}
use Rattle.state_bits.proofs.NeighbourLemmas.{Has-none}
use Rattle.state_bits.proofs.WordLemmas.{length-words_of}
use Rattle.sequence_grids.specs.declared.table.Class.{Class}
use Rattle.sequence_grids.specs.declared.table.Triple.{Triple}
use Rattle.sequence_grids.specs.Tables.{ClassSets, TripleSets, TableValue, class_sets, triple_sets, IsClassOf, Grows, IsLast, IsStepAt, AreSteps, AreBelow, IsTable, row, unknown}

-- an element of a list where it is mapped
pub slice_get-mapped : {X Y : Type 0} (f : X → Y) (xs : List X) (i : ℕ) (x : X) → i < length xs → x ≡ get_or xs i x → slice_get (map f xs) i ≡ Some (f x)
slice_get-mapped f xs i x inside is = slice_get-map f xs i ∙ (rw (slice_get_read xs (length xs) i x refl inside is) refl)

-- the same of a list that is shown
pub map_at : {X Y : Type 0} (f : X → Y) (xs shown : List X) (i : ℕ) (x : X) → i < length (map f xs) → shown ≡ xs → x ≡ get_or shown i x → slice_get (map f xs) i ≡ Some (f x)
map_at f xs shown i x inside same is = slice_get-mapped f xs i x (omega (arith, inside, length-map xs f)) (is ∙ ap (λ l. get_or l i x) same)

-- and no other element is there
pub mapped_is : {X Y : Type 0} (f : X → Y) (xs shown : List X) (i : ℕ) (x : X) (y : Y) → slice_get (map f xs) i ≡ Some y → shown ≡ xs → x ≡ get_or shown i x → y ≡ f x
mapped_is f xs shown i x y there same is =
    let inside : i < length (map f xs) = slice_get_within (map f xs) i y there in
    sym (get_or_from_slice_get (map f xs) i y (f x) there) ∙ get_or_from_slice_get (map f xs) i (f x) (f x) (map_at f xs shown i x inside same is)

-- ---- steps

pub IsStepAt-grow : (predecessors : List ℕ) (classes more_classes : List ClassSets) (triples more_triples : List TripleSets) (class after before : ℕ)
    → IsStepAt predecessors classes triples class after before → IsStepAt predecessors (classes ++ more_classes) (triples ++ more_triples) class after before
IsStepAt-grow predecessors classes more_classes triples more_triples class after before (c, a, b, found_c, found_a, found_b, step) =
    (c, a, b, get-left classes more_classes class c found_c, get-left triples more_triples after a found_a, get-left triples more_triples before b found_b, step)

-- a step that is kept
pub step-kept : (predecessors : List ℕ) (classes : List ClassSets) (triples : List TripleSets) (kept : List ℕ) (class after before : ℕ) → AreSteps predecessors classes triples kept
    → class < 256 → 256 * after + class < length kept → slice_index kept (256 * after + class) ≡ before → before ≢ unknown → IsStepAt predecessors classes triples class after before
step-kept predecessors classes triples kept class after before right first inside is some =
    let column : (256 * after + class) % row ≡ class = omega arith in
    let line : (256 * after + class) / row ≡ after = omega arith in
    rw (column, line, is) at (right (256 * after + class) inside (λ same. some (sym is ∙ same)))

pub IsTable-triples : (width : ℕ) (predecessors : List ℕ) (classes : List ClassSets) (triples after more : List TripleSets) (kept : List ℕ)
    → IsTable width predecessors classes triples kept → after ≡ triples ++ more → IsTable width predecessors classes after kept
IsTable-triples width predecessors classes triples after more kept table grown = record {
  room = table.room;
  below = table.below;
  steps = λ i inside some.
      let (c, a, b, found_c, found_a, found_b, step) = table.steps i inside some in
      rw grown (c, a, b, found_c, get-left triples more (i / row) a found_a, get-left triples more (slice_index kept i) b found_b, step);
}

pub IsTable-classes : (width : ℕ) (predecessors : List ℕ) (classes after more : List ClassSets) (triples : List TripleSets) (kept : List ℕ)
    → IsTable width predecessors classes triples kept → after ≡ classes ++ more → ((class : ClassSets) → Contains more class → AreBelow (length predecessors) class)
    → IsTable width predecessors after triples kept
IsTable-classes width predecessors classes after more triples kept table grown are = record {
  room = table.room;
  below = λ number class found.
      let here : slice_get (classes ++ more) number ≡ Some class = rw grown at found in
      let inside : number < length (classes ++ more) = slice_get_within (classes ++ more) number class here in
      let is : get_or (classes ++ more) number class ≡ class = get_or_from_slice_get (classes ++ more) number class class here in
      elim (cases_lt number (length classes)) [
        | inl old ↦ table.below number class (slice_get_read classes (length classes) number class refl old (sym is ∙ get_or_append_left classes more class number old))
        | inr new ↦
            let place : length classes + (number - length classes) ≡ number = omega arith in
            let there : get_or (classes ++ more) (length classes + (number - length classes)) class ≡ get_or more (number - length classes) class =
            get_or-append-add classes more (number - length classes) class in
            are class (number - length classes, omega (arith, length-append classes more), sym there ∙ (rw place is))
      ];
  steps = λ i inside some.
      let (c, a, b, found_c, found_a, found_b, step) = table.steps i inside some in
      rw grown (c, a, b, get-left classes more (i % row) c found_c, found_a, found_b, step);
}

pub IsTable-keep : (width : ℕ) (predecessors : List ℕ) (classes : List ClassSets) (triples : List TripleSets) (kept after : List ℕ) (class triple number : ℕ)
    → IsTable width predecessors classes triples kept → IsStepAt predecessors classes triples class triple number
    → ((i : ℕ) → i < length after → slice_index after i ≢ unknown
    → (((i ≡ 256 * triple + class) × (class < 256) × (slice_index after i ≡ number)) ⊎ ((i < length kept) × (slice_index after i ≡ slice_index kept i))))
    → IsTable width predecessors classes triples after
IsTable-keep width predecessors classes triples kept after class triple number table right cases = record {
  room = table.room;
  below = table.below;
  steps = λ i inside some. elim (cases i inside some) [
    | inl (place, first, is) ↦
        let column : i % row ≡ class = omega arith in
        let line : i / row ≡ triple = omega arith in
        rw (column, line, is) right
    | inr (old, is) ↦
        let some_old : slice_index kept i ≢ unknown = λ same. some (is ∙ same) in
        rw is (table.steps i old some_old)
  ];
}

-- ---- the sets of classes and triples

abbrev pub triple_eq : {W : ℕ} → Triple W → Triple W → Bool
triple_eq a b = a.seen == b.seen && (a.more == b.more && (a.unseen == b.unseen && a.ends == b.ends))

abbrev pub class_eq : {W : ℕ} → Class W → Class W → Bool
class_eq a b = a.silent == b.silent && (a.writes == b.writes && a.needs == b.needs)

pub same_triple : {W : ℕ} (a b : Triple W) → triple_eq a b ≡ true → triple_sets a ≡ triple_sets b
same_triple a b same =
    let first = and_parts _ _ same in
    let second = and_parts _ _ first.1 in
    let third = and_parts _ _ second.1 in
    let seen : a.seen ≡ b.seen = eqb-true _ _ first.0 in
    let more : a.more ≡ b.more = eqb-true _ _ second.0 in
    let unseen : a.unseen ≡ b.unseen = eqb-true _ _ third.0 in
    let ends : a.ends ≡ b.ends = eqb-true _ _ third.1 in
    rw (seen, more, unseen, ends)

pub same_class : {W : ℕ} (a b : Class W) → class_eq a b ≡ true → class_sets a ≡ class_sets b
same_class a b same =
    let first = and_parts _ _ same in
    let second = and_parts _ _ first.1 in
    let silent : a.silent ≡ b.silent = eqb-true _ _ first.0 in
    let writes : a.writes ≡ b.writes = eqb-true _ _ second.0 in
    let needs : a.needs ≡ b.needs = eqb-true _ _ second.1 in
    rw (silent, writes, needs)

pub All-wider : (xs : List ℕ) (n m : ℕ) → All (λ k. k < n) xs → n ≤ m → All (λ k. k < m) xs
All-wider xs n m all wide k d inside = let below : get_or xs k d < n = all k d inside in omega arith

pub AreBelow-of : (states : ℕ) (class : ClassSets) (silent writes needs : List ℕ) → IsClassOf class silent writes needs
    → All (λ k. k < states) silent → All (λ k. k < states) writes → All (λ k. k < states) needs → AreBelow states class
AreBelow-of states class silent writes needs are all_silent all_writes all_needs = record {
  silent = λ k has. All-contains (λ k. k < states) silent k all_silent ((are.silent_is k).0 has);
  writes = λ k has. All-contains (λ k. k < states) writes k all_writes ((are.writes_is k).0 has);
  needs = λ k has. All-contains (λ k. k < states) needs k all_needs ((are.needs_is k).0 has);
}

pub Grows-triples : (predecessors : List ℕ) (classes : List ClassSets) (triples after more : List TripleSets) → after ≡ triples ++ more
    → Grows (record { predecessors = predecessors; classes = classes; triples = triples }) (record { predecessors = predecessors; classes = classes; triples = after })
Grows-triples predecessors classes triples after more grown = record { predecessors = refl; classes = ([], sym (append-nil classes)); triples = (more, grown) }

pub Grows-classes : (predecessors : List ℕ) (classes after more : List ClassSets) (triples : List TripleSets) → after ≡ classes ++ more
    → Grows (record { predecessors = predecessors; classes = classes; triples = triples }) (record { predecessors = predecessors; classes = after; triples = triples })
Grows-classes predecessors classes after more triples grown = record { predecessors = refl; classes = (more, grown); triples = ([], sym (append-nil triples)) }

pub Grows-nothing : (value : TableValue) → Grows value value
Grows-nothing value = record { predecessors = refl; classes = ([], sym (append-nil value.classes)); triples = ([], sym (append-nil value.triples)) }

pub Grows-twice : (a b c : TableValue) → Grows a b → Grows b c → Grows a c
Grows-twice a b c first second = record {
  predecessors = second.predecessors ∙ first.predecessors;
  classes = let (more, e) = first.classes in let (others, f) = second.classes in (more ++ others, (rw (f, e) (append_assoc a.classes more others)));
  triples = let (more, e) = first.triples in let (others, f) = second.triples in (more ++ others, (rw (f, e) (append_assoc a.triples more others)));
}

pub AddsTo-same : {X : Type 0} (before after : List X) (x : X) → after ≡ before → AddsTo before x after
AddsTo-same before after x same = ([], same ∙ sym (append-nil before), (λ y none. absurd (Contains-none y none)))

-- ---- the words of a set

bit-words_of : (width set q : ℕ) → q < 64 * width → bit_at (get_or (words_of width set) (q / 64) 0) (q % 64) ≡ bit_at set q
unfolding words_of
bit-words_of zero set q inside = absurd (omega arith)
bit-words_of (suc width) set q inside =
    let whole : set / 2 ^ 64 * 2 ^ 64 + set % 2 ^ 64 ≡ set = omega arith in
    let low_word : set % 2 ^ 64 < 2 ^ 64 = omega arith in
    elim (cases_lt q 64) [
      | inl low ↦
          let zeroth : q / 64 ≡ 0 = omega arith in
          let same : q % 64 ≡ q = omega arith in
          rw (zeroth, same) (sym (bit_at_cat_low (set / 2 ^ 64) 64 (set % 2 ^ 64) q low) ∙ ap (λ (n : ℕ). bit_at n q) whole)
      | inr high ↦
          let later : q / 64 ≡ suc ((q - 64) / 64) = omega arith in
          let same : q % 64 ≡ (q - 64) % 64 = omega arith in
          rw (later, same) (bit-words_of width (set / 2 ^ 64) (q - 64) (omega arith)
          ∙ (sym (bit_at_cat_high (set / 2 ^ 64) 64 (set % 2 ^ 64) q low_word high) ∙ ap (λ (n : ℕ). bit_at n q) whole))
    ]

pub words_long : (width set : ℕ) (words : List ℕ) (states : ℕ) → words ≡ words_of width set → states ≤ 64 * width → states ≤ 64 * length words
words_long width set words states are room =
    let long : length words ≡ width = ap length are ∙ length-words_of width set in
    omega arith

pub words_bit : (width set : ℕ) (words : List ℕ) (states q : ℕ) → words ≡ words_of width set → states ≤ 64 * width → q < states → HasBit words q ↔ Has set q
unfolding Has
words_bit width set words states q are room state =
    let bit : bit_at (get_or words (q / 64) 0) (q % 64) ≡ bit_at set q = ap (λ (ws : List ℕ). bit_at (get_or ws (q / 64) 0) (q % 64)) are ∙ bit-words_of width set q (omega arith) in
    ((λ has. sym bit ∙ has), (λ has. bit ∙ has))

-- the first key of a set
pub first_inserted : {X Y : Type 0} (f : X → Y) (eq : X → X → Bool) (before after : List X) (k : X) → before ≡ [] → after ≡ insert_key eq before k → map f after ≡ f k ∷ []
first_inserted f eq before after k none are = rw (are, none) refl

pub IsLast-of : (finals all : ℕ) → ((q : ℕ) → Has all q ↔ Has finals q) → (more none : ℕ) → more ≡ 0 → none ≡ 0
    → IsLast finals (record { seen = all; more = more; unseen = none; ends = all })
IsLast-of finals all are more none nothing is = record {
  seen = are;
  more = λ q has. Has-none q (rw nothing at has);
  unseen = λ q has. Has-none q (rw is at has);
  ends = are;
}

-- ---- copies

-- a key that was not there goes last
pub inserted_last : {T : Type 0} (eq : T → T → Bool) (ks after : List T) (k : T) (new : Bool) → after ≡ cond (list_any (eq k) ks) ks (ks ++ k ∷ []) → new ≡ not (list_any (eq k) ks) → new ≡ true
    → after ≡ ks ++ k ∷ []
inserted_last eq ks after k new are is added = elim (cases_Bool (list_any (eq k) ks)) [
  | inl there ↦ absurd (true≢false (sym added ∙ (is ∙ ap not there)))
  | inr none ↦ rw (are, none) refl
]

-- a table with the same states, where no step is kept
pub IsTable-copy : (width : ℕ) (predecessors : List ℕ) (classes : List ClassSets) (triples : List TripleSets) (kept : List ℕ) → IsTable width predecessors classes triples kept
    → IsTable width predecessors classes triples []
IsTable-copy width predecessors classes triples kept is = record { room = is.room; below = is.below; steps = λ i none. absurd (omega (arith, none)) }
