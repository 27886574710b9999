-- The rows of an accepted input keep within the limits of files.
use Rattle.std.proofs.Common.{◌≡◌, ℕ, zero, suc, ◌+◌, ◌*◌, ◌≤◌, ◌<◌, inl, inr, Bool, true, false, List, [], ◌∷◌, ◌++◌, map, length, All, Contains, length-append, refl, sym, ap, ◌∙◌, subst, arith}
use Rattle.std.specs.List.{AllByRecursion}
use Rattle.std.proofs.lemmas.Bool.{cases_lt}
use Rattle.std.proofs.lemmas.List.{append-nil, append_assoc, length-map}
use Rattle.mine_model.specs.declared.fault.Fault.TheVariants.{BadByte, BadWeight, NameTooLong, TooManyItems, TooManySequences}
use Rattle.mine_model.specs.declared.fault.Which.{Which}
use Rattle.mine_model.specs.declared.fault.Which.TheVariants.{Hierarchy, Sequences}
use Rattle.mine_model.specs.Limits.{most_name_bytes, most_items, most_sequences, most_weight, most_support}
use Rattle.mine_model.specs.Text.{lines_of, fields_of, placed_fields_of, pieces_by_blank, Field, TextFault, bad_byte, long_name, HasTextFault, IsFirstTextFault, IsSoundLine}
use Rattle.mine_model.specs.Expression.{Tree}
use Rattle.mine_model.specs.Grammar.{value_of_digits}
use Rattle.mine_model.specs.First.{FirstOf, FirstAmong}
use Rattle.mine_model.specs.Refusal.{HasMoreNames, IsTextRefusal, IsHierarchyLineRefusal, IsHierarchyRefusal, IsSequenceLineRefusal, IsSequencesRefusal, IsBadWeight, names_of, links_of, items_of, sequence_of, sequences_of, sequences_of_lines}
use Rattle.mine_model.specs.Hierarchy.{Link}
use Rattle.mine_model.specs.Generation.{IsPatternOf}
use Rattle.mine_model.specs.Support.{Sequence, Counts}
use Rattle.mine_model.specs.Answer.{Data, NamedRow, IsAnswer, IsFrequent}
use Rattle.mine_model.proofs.ListLemmas.{Contains-cases, Contains-first, Contains-other, Contains-none, Contains-from, cut_at, AllByRecursion-from, AllByRecursion-weaker, last-cases}
use Rattle.mine_model.proofs.ElementLemmas.{flat-cases, flat-held}
use Rattle.mine_model.proofs.AboveLemmas.{IsAncestor-keeps}
use Rattle.mine_model.proofs.GenerationLemmas.{Generates-items}
use Rattle.mine_model.proofs.SupportLemmas.{Counts-some}
use Rattle.mine_model.specs.Names.{IsFileName}
use Rattle.mine_model.proofs.FieldLemmas.{pieces-named, texts-named}
use Rattle.command_line.specs.Words.{Source, read, embed, make, merge}
use Rattle.split_merge.specs.Merging.{IsOutputRow, IsKnownRow, AreWithinLimits}
use Rattle.desq_run.specs.Sources.{IsSourceRefusal, SaysTree}
use Rattle.desq_run.specs.Said.{names_said, RefusesHierarchy, RefusesSequences}
use Rattle.desq_run.specs.Ends.{Input, IsDataRefusal, IsRowsRefusal, IsAccepted, input_data}
use Rattle.desq_run.proofs.SourceLemmas.{data_by}
use Rattle.desq_run.proofs.HierarchyLemmas.{all-of}
use Rattle.desq_run.proofs.LinkLemmas.{links-among, Contains-both, Contains-front, Contains-back}

-- What is not refused

abbrev pub Nothing : {F : Type 0} → (F → Type 0) → Type 0
Nothing {F} Refused = (fault : F) → Refused fault → ⊥

module _ {F : Type 0} where
  pub first_none : (First Second : F → Type 0) → Nothing (FirstOf First Second) → Nothing First
  first_none First Second none fault is = none fault (inl is)

  pub second_none : (First Second : F → Type 0) → Nothing (FirstOf First Second) → Nothing Second
  second_none First Second none fault is = none fault (inr ((λ other first. none other (inl first)), is))

  -- of elements none of which is refused, none is, wherever it stands
  each_none : {X : Type 0} (R : List X → X → F → Type 0) (before front : List X) (x : X) (back : List X) → Nothing (FirstAmong R before (front ++ x ∷ back))
      → Nothing (R (before ++ front) x)
  each_none R before [] x back none =
      subst (λ l. Nothing (R l x)) (sym (append-nil before)) (first_none (R before x) (FirstAmong R (before ++ x ∷ []) back) none)
  each_none R before (y ∷ front) x back none =
      subst (λ l. Nothing (R l x)) (append_assoc before (y ∷ []) front)
      (each_none R (before ++ y ∷ []) front x back (second_none (R before y) (FirstAmong R (before ++ y ∷ []) (front ++ x ∷ back)) none))

-- The text of a line

-- where no fault is the first, there is none
no_fault : (line : List ℕ) → ((f : TextFault) (c : ℕ) → IsFirstTextFault line f c → ⊥) → (n : ℕ) (f : TextFault) (c : ℕ) → c < n → HasTextFault line f c → ⊥
no_fault line none zero f c less has = omega (arith, less)
no_fault line none (suc n) f c less has = none f c (
  has,
  (λ other e also. elim (cases_lt e c) [
    | inl below ↦ absurd (no_fault line none n other e (omega (arith, below, less)) also)
    | inr least ↦ least
  ]),
)

sound : (file : Which) (number : ℕ) (line : List ℕ) → Nothing (IsTextRefusal file number line) → IsSoundLine line
sound file number line none fault column has = no_fault line first (suc column) fault column (omega arith) has
  where
    first : (f : TextFault) (c : ℕ) → IsFirstTextFault line f c → ⊥
    first bad_byte c is = none (BadByte file number c) (c, inl (is, refl))
    first long_name c is = none (NameTooLong file number c) (c, inr (is, refl))

-- a name of a file: bytes of names, not too many
abbrev IsShortName : List ℕ → Type 0
IsShortName name = IsFileName name × (length name ≤ most_name_bytes)

held_from : {X Y : Type 0} (f : X → Y) (P : Y → Type 0) (xs : List X) → AllByRecursion P (map f xs) → (x : X) → Contains xs x → P (f x)
held_from f P [] all x held = absurd (Contains-none x held)
held_from f P (y ∷ xs) all x held = elim (Contains-cases y xs x held) [
  | inl same ↦ subst (λ z. P (f z)) (sym same) all.0
  | inr later ↦ held_from f P xs all.1 x later
]

field_name : (line : List ℕ) → IsSoundLine line → (name : List ℕ) → Contains (fields_of line) name → IsShortName name
field_name line is name held =
    let (field, inside, same) = Contains-from (λ (f : Field). f.text) (placed_fields_of line) name held in
    let text : IsFileName field.text = held_from (λ (f : Field). f.text) IsFileName (placed_fields_of line) (texts-named 1 (pieces_by_blank line) (pieces-named line)) field inside in
    let short : length field.text ≤ most_name_bytes = elim (cases_lt most_name_bytes (length field.text)) [
      | inl long ↦ absurd (is long_name (field.column + most_name_bytes) (field, inside, long, refl))
      | inr most ↦ most
    ] in
    subst IsShortName (sym same) (text, short)

-- The files

module _ (bytes : List ℕ) (none : Nothing (IsHierarchyRefusal bytes)) where
  hierarchy_lines : Nothing (FirstAmong IsHierarchyLineRefusal [] (lines_of bytes))
  hierarchy_lines = first_none _ _ (second_none _ _ none)

  hierarchy_line : (front : List (List ℕ)) (line : List ℕ) (back : List (List ℕ)) → lines_of bytes ≡ front ++ line ∷ back → Nothing (IsHierarchyLineRefusal front line)
  hierarchy_line front line back cut =
      each_none IsHierarchyLineRefusal [] front line back (subst (λ l. Nothing (FirstAmong IsHierarchyLineRefusal [] l)) cut hierarchy_lines)

  hierarchy_name : (name : List ℕ) → Contains (names_of (lines_of bytes)) name → IsShortName name
  hierarchy_name name held =
      let (line, inside, part) = flat-cases fields_of (lines_of bytes) name held in
      let (front, back, cut) = cut_at (lines_of bytes) line inside in
      field_name line (sound Hierarchy (length front + 1) line (first_none _ _ (hierarchy_line front line back cut))) name part

  hierarchy_few : HasMoreNames most_items (names_of (lines_of bytes)) → ⊥
  hierarchy_few more = elim (last-cases (lines_of bytes)) [
    | inl empty ↦ no_more (subst (λ l. HasMoreNames most_items (names_of l)) empty more)
    | inr (front, last, cut) ↦
        second_none _ _ (hierarchy_line front last [] cut) (TooManyItems Hierarchy (length front + 1))
        (subst (λ l. HasMoreNames most_items (names_of l)) cut more, refl)
  ]
    where
      no_more : HasMoreNames most_items [] → ⊥
      no_more ([], apart, all, less) = omega (arith, less)
      no_more (x ∷ some, apart, all, less) = Contains-none x (all 0 x (omega arith))

module _ (weighted : Bool) (known : List (List ℕ)) (bytes : List ℕ) (none : Nothing (IsSequencesRefusal weighted known bytes)) where
  sequence_line : (front : List (List ℕ)) (line : List ℕ) (back : List (List ℕ)) → lines_of bytes ≡ front ++ line ∷ back
      → Nothing (IsSequenceLineRefusal weighted known front line)
  sequence_line front line back cut =
      each_none (IsSequenceLineRefusal weighted known) [] front line back
      (subst (λ l. Nothing (FirstAmong (IsSequenceLineRefusal weighted known) [] l)) cut (second_none _ _ none))

  field_of_item : (fields : List (List ℕ)) (name : List ℕ) → Contains (sequence_of weighted fields).items name → Contains fields name
  field_of_item fields name held = by weighted fields held
    where
      by : (w : Bool) (fields : List (List ℕ)) → Contains (sequence_of w fields).items name → Contains fields name
      by false fields held = held
      by true [] held = held
      by true (digits ∷ items) held = Contains-other digits items name held

  sequence_name : (name : List ℕ) → Contains (items_of (sequences_of weighted bytes)) name → IsShortName name
  sequence_name name held =
      let (s, inside, part) = flat-cases (λ (s : Sequence (List ℕ)). s.items) (sequences_of weighted bytes) name held in
      let (line, at, same) = Contains-from (λ line. sequence_of weighted (fields_of line)) (lines_of bytes) s inside in
      let (front, back, cut) = cut_at (lines_of bytes) line at in
      field_name line (sound Sequences (length front + 1) line (first_none _ _ (sequence_line front line back cut))) name
      (field_of_item (fields_of line) name (subst (λ (s : Sequence (List ℕ)). Contains s.items name) same part))

  sequences_few : (HasMoreNames most_items known → ⊥) → HasMoreNames most_items (known ++ items_of (sequences_of weighted bytes)) → ⊥
  sequences_few few more = elim (last-cases (lines_of bytes)) [
    | inl empty ↦ few (subst (HasMoreNames most_items) (append-nil known) (subst (λ l. HasMoreNames most_items (known ++ items_of (sequences_of_lines weighted l))) empty more))
    | inr (front, last, cut) ↦
        second_none _ _ (second_none _ _ (second_none _ _ (second_none _ _ (sequence_line front last [] cut)))) (TooManyItems Sequences (length front + 1))
        (subst (λ l. HasMoreNames most_items (known ++ items_of (sequences_of_lines weighted l))) cut more, refl)
  ]

  pub sequences_count : length (sequences_of weighted bytes) ≤ most_sequences
  sequences_count =
      let long : length (sequences_of weighted bytes) ≡ length (lines_of bytes) = length-map (lines_of bytes) (λ line. sequence_of weighted (fields_of line)) in
      elim (last-cases (lines_of bytes)) [
        | inl empty ↦ (let none_long : length (lines_of bytes) ≡ 0 = ap length empty in omega (arith, long, none_long))
        | inr (front, last, cut) ↦
            let one_more : length (lines_of bytes) ≡ length front + 1 = ap length cut ∙ length-append front (last ∷ []) in
            elim (cases_lt (length front) most_sequences) [
              | inl less ↦ omega (arith, long, one_more, less)
              | inr most ↦ absurd (first_none _ _ (second_none _ _ (sequence_line front last [] cut)) (TooManySequences (length front + 1)) (most, refl))
            ]
      ]

  pub sequence_weight : (s : Sequence (List ℕ)) → Contains (sequences_of weighted bytes) s → s.weight ≤ most_weight
  sequence_weight s inside =
      let (line, at, same) = Contains-from (λ line. sequence_of weighted (fields_of line)) (lines_of bytes) s inside in
      let (front, back, cut) = cut_at (lines_of bytes) line at in
      subst (λ (s : Sequence (List ℕ)). s.weight ≤ most_weight) (sym same)
      (by weighted (placed_fields_of line) (λ column is. first_none _ _ (second_none _ _ (second_none _ _ (sequence_line front line back cut)))
      (BadWeight (length front + 1) column) (column, is, refl)))
    where
      by : (w : Bool) (fields : List Field) → ((column : ℕ) → IsBadWeight w fields column → ⊥)
          → (sequence_of w (map (λ (f : Field). f.text) fields)).weight ≤ most_weight
      by false fields good = omega arith
      by true [] good = omega arith
      by true (field ∷ fields) good = elim (cases_lt most_weight (value_of_digits field.text)) [
        | inl more ↦ absurd (good field.column ((λ (n, digits, least, most). (let value = digits.2 in omega (arith, value, most, more))), refl))
        | inr most ↦ most
      ]

-- The support of a pattern

abbrev total : List (Sequence (List ℕ)) → ℕ
total [] = 0
total (s ∷ sequences) = 1000000000 + total sequences

total-is : (sequences : List (Sequence (List ℕ))) → total sequences ≡ length sequences * 1000000000
total-is [] = refl
total-is (s ∷ sequences) = let rest = total-is sequences in omega (arith, rest)

counted-most : (Has : List (List ℕ) → Type 0) (sequences : List (Sequence (List ℕ))) → ((s : Sequence (List ℕ)) → Contains sequences s → s.weight ≤ most_weight)
    → (n : ℕ) → Counts Has sequences n → n ≤ total sequences
counted-most Has [] weights n none = omega (arith, none)
counted-most Has (s ∷ sequences) weights n (inl (has, (rest, sum, more))) =
    let one : s.weight ≤ 1000000000 = weights s (Contains-first s sequences) in
    let others = counted-most Has sequences (λ t held. weights t (Contains-other s sequences t held)) rest more in
    omega (arith, one, others, sum)
counted-most Has (s ∷ sequences) weights n (inr (not, more)) =
    let others = counted-most Has sequences (λ t held. weights t (Contains-other s sequences t held)) n more in
    omega (arith, others)

-- The rows

module _ (weighted : Bool) (hierarchy sequences : List ℕ) (threshold : ℕ) (some : 1 ≤ threshold) (tree : Tree (List ℕ))
    (none : Nothing (IsHierarchyRefusal hierarchy)) (also : Nothing (IsSequencesRefusal weighted (names_of (lines_of hierarchy)) sequences)) where
  abbrev run_data : Data (List ℕ)
  run_data = record { links = links_of hierarchy; sequences = sequences_of weighted sequences; expression = tree; threshold = threshold }

  abbrev known : List (List ℕ)
  known = names_of (lines_of hierarchy) ++ items_of (sequences_of weighted sequences)

  known_name : (name : List ℕ) → Contains known name → IsShortName name
  known_name name held = elim (Contains-both (names_of (lines_of hierarchy)) (items_of (sequences_of weighted sequences)) name held) [
    | inl front ↦ hierarchy_name hierarchy none name front
    | inr back ↦ sequence_name weighted (names_of (lines_of hierarchy)) sequences also name back
  ]

  items_known : (s : Sequence (List ℕ)) → Contains (sequences_of weighted sequences) s → AllByRecursion (Contains known) s.items
  items_known s held = AllByRecursion-from (Contains known) s.items (λ name inside.
      Contains-back (names_of (lines_of hierarchy)) (items_of (sequences_of weighted sequences)) name
      (flat-held (λ (s : Sequence (List ℕ)). s.items) (sequences_of weighted sequences) s name held inside))

  links_known : All (λ link. Contains known link.child × Contains known link.parent) (links_of hierarchy)
  links_known = all-of (λ (link : Link (List ℕ)). Contains known link.child × Contains known link.parent) (links_of hierarchy) (λ link held.
      let both = links-among (read [] []) hierarchy link held in (
        Contains-front (names_of (lines_of hierarchy)) (items_of (sequences_of weighted sequences)) link.child both.0,
        Contains-front (names_of (lines_of hierarchy)) (items_of (sequences_of weighted sequences)) link.parent both.1,
      ))

  pattern_known : (row : NamedRow) → IsFrequent run_data row.pattern row.support → AllByRecursion (Contains known) row.pattern
  pattern_known row frequent =
      let (items, is, inside) = Counts-some (λ items. IsPatternOf (links_of hierarchy) tree items row.pattern) (AllByRecursion (Contains known))
      (sequences_of weighted sequences) row.support frequent.exact (omega (arith, some, frequent.enough))
      (AllByRecursion-from (λ (s : Sequence (List ℕ)). AllByRecursion (Contains known) s.items) (sequences_of weighted sequences) items_known) in
      Generates-items (links_of hierarchy) (Contains known) (λ v t above held. IsAncestor-keeps (links_of hierarchy) (Contains known) links_known v t held above)
      tree false items row.pattern is.1 inside

  support_most : (row : NamedRow) → IsFrequent run_data row.pattern row.support → row.support ≤ most_support
  support_most row frequent =
      let most = counted-most (λ items. IsPatternOf (links_of hierarchy) tree items row.pattern) (sequences_of weighted sequences)
      (sequence_weight weighted (names_of (lines_of hierarchy)) sequences also) row.support frequent.exact in
      let sum = total-is (sequences_of weighted sequences) in
      let few : length (sequences_of weighted sequences) ≤ 4194304 = sequences_count weighted (names_of (lines_of hierarchy)) sequences also in
      omega (arith, most, sum, few)

  file_limits : (answer : List NamedRow) → IsAnswer run_data answer → AreWithinLimits threshold answer
  file_limits answer is = record {
    known = known;
    few = sequences_few weighted (names_of (lines_of hierarchy)) sequences also (hierarchy_few hierarchy none);
    outputs = AllByRecursion-from (IsOutputRow threshold) answer (λ row held.
        let frequent = (is.frequent row).0 held in
        record {
          least = frequent.enough;
          most = support_most row frequent;
          some = frequent.not_empty;
          names = AllByRecursion-weaker (Contains known) IsFileName (λ name inside. (known_name name inside).0) row.pattern (pattern_known row frequent);
        });
    names = AllByRecursion-from (IsKnownRow known) answer (λ row held.
        AllByRecursion-weaker (Contains known) (λ name. Contains known name × (length name ≤ most_name_bytes))
        (λ name inside. (inside, (known_name name inside).1)) row.pattern (pattern_known row ((is.frequent row).0 held)));
  }

-- THE ROWS of an accepted input of files keep within the limits
pub within-limits : (input : Input) → ((count : ℕ) (expression : List ℕ) → input.command.source ≡ make count expression → ⊥) → 1 ≤ input.command.threshold
    → IsAccepted input → (tree : Tree (List ℕ)) (answer : List NamedRow) → SaysTree input.command.source tree → IsAnswer (input_data input tree) answer → AreWithinLimits input.command.threshold answer
within-limits input file some accepted tree answer says is = by input.command.source refl
  where
    from : (source : Source) → source ≡ input.command.source → Nothing (RefusesHierarchy source input.hierarchy)
        × Nothing (RefusesSequences source input.command.weighted (names_said source input.hierarchy) input.sequences)
        × IsAnswer (data_by source input tree) answer
    from source own =
        let behind = second_none (IsSourceRefusal input.command.source) _ (first_none (IsDataRefusal input) _ (first_none (IsRowsRefusal input) _ accepted)) in
        subst (λ source. Nothing (RefusesHierarchy source input.hierarchy)
        × Nothing (RefusesSequences source input.command.weighted (names_said source input.hierarchy) input.sequences)
        × IsAnswer (data_by source input tree) answer) (sym own)
        (first_none _ _ behind, first_none _ _ (second_none _ _ behind), is)

    by : (source : Source) → source ≡ input.command.source → AreWithinLimits input.command.threshold answer
    by (read expression name) own =
        let (none, also, whole) = from (read expression name) own in
        file_limits input.command.weighted input.hierarchy input.sequences input.command.threshold some tree none also answer whole
    by (embed rule name) own =
        let (none, also, whole) = from (embed rule name) own in
        file_limits input.command.weighted input.hierarchy input.sequences input.command.threshold some tree none also answer whole
    by (make count expression) own = absurd (file count expression (sym own))
    by (merge files) own = absurd (subst (λ source. SaysTree source tree) (sym own) says)
