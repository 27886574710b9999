-- Lemmas on the lines that were read, and on the first refusal.
use Rattle.std.proofs.Common.{◌≡◌, ◌≢◌, ℕ, ◌+◌, ◌≤◌, ◌<◌, inl, inr, Bool, List, [], ◌∷◌, ◌++◌, map, length, Option, Some, None, IfSome, refl, sym, ap, ◌∙◌, subst, arith, append_assoc, length-append}
use Rattle.std.specs.List.{AllByRecursion, Contains}
use Rattle.std.proofs.lemmas.List.{append-nil, map-append, length-map, length_push}
use Rattle.std.proofs.lemmas.List.Elements.{Contains-append_left, Contains-append_right, Contains-append_cases}
use Rattle.std.proofs.lemmas.List.Concat.{flat_map-append}
use Rattle.mine_model.specs.declared.item.Item.{Item}
use Rattle.mine_model.specs.declared.fault.Fault.{Fault}
use Rattle.mine_model.specs.declared.fault.Fault.TheVariants as fault
use Rattle.mine_model.specs.declared.fault.Which.TheVariants.{Sequences}
use Rattle.sequence_reader.specs.declared.sequence_fault.SequenceFault.{SequenceFault}
use Rattle.sequence_reader.specs.declared.sequence_fault.SequenceFault.TheVariants.{ReadFault, TooLarge, BadByte, NameTooLong, TooManySequences, BadWeight, TooLong, TooManyItems, NoMemory}
use Rattle.sequence_reader.specs.Faults.{fault_of_sequences}
use Rattle.mine_model.specs.First.{FirstAmong}
use Rattle.mine_model.specs.Limits.{most_file_bytes, most_sequences, most_items}
use Rattle.mine_model.specs.Text.{lines_of, fields_of, placed_fields_of, bad_byte, long_name, IsSoundLine}
use Rattle.mine_model.specs.Support.{Sequence}
use Rattle.mine_model.specs.Names.{name_of, HasName, sequence_by, GrowBy}
use Rattle.mine_model.specs.Refusal.{HasMoreNames, sequence_of, sequences_of, sequences_of_lines, items_of, IsBadWeight, IsSequenceLineRefusal, IsSequencesRefusal}
use Rattle.mine_model.proofs.ListLemmas.{of_both}
use Rattle.mine_model.proofs.TextLemmas.{no_text_fault}
use Rattle.mine_model.proofs.NameLemmas.{GrowBy-none, GrowBy-more, no_more_names}
use Rattle.item_names.proofs.Growing.{HasMoreNames-grown}
use Rattle.text_ports.specs.Lines.{WasGiven, TookAll, StoppedAt, Refused}
use Rattle.sequence_reader.specs.declared.reading.Reading.{Reading}
use Rattle.sequence_reader.specs.Taking.{said_to, IsGoodLine, TookLine, IsLineFault, RefusedLine, IsTaken}
use Rattle.item_names.proofs.FieldLemmas.{map-name_of-grown, AllNamed-grown}

pub IsTaken-start : (reading : Reading) → length reading.names ≤ most_items → reading.db ≡ [] → IsTaken reading.names reading.weighted [] reading
IsTaken-start reading room empty = record {
  same = refl;
  good = tt;
  few = omega arith;
  grown = GrowBy-none reading.names;
  room = room;
  named = subst (AllByRecursion (λ (sequence : Sequence Item). AllByRecursion (HasName reading.names) sequence.items)) (sym empty) tt;
  said = ap (map (sequence_by (name_of reading.names))) empty;
}

-- sequences keep their names while names grow
pub sequences-grown : (old names new : List (List ℕ)) (sequences : List (Sequence Item)) → GrowBy old names new → AllByRecursion (λ sequence. AllByRecursion (HasName old) sequence.items) sequences
    → map (sequence_by (name_of new)) sequences ≡ map (sequence_by (name_of old)) sequences
sequences-grown old names new [] grown named = refl
sequences-grown old names new (sequence ∷ sequences) grown named =
    let first : sequence_by (name_of new) sequence ≡ sequence_by (name_of old) sequence =
    ap (λ (w : List (List ℕ)). record { items = w; weight = sequence.weight }) (map-name_of-grown old names new sequence.items grown named.0) in
    let others = sequences-grown old names new sequences grown named.1 in
    cc (first, others)

pub named-grown : (old names new : List (List ℕ)) (sequences : List (Sequence Item)) → GrowBy old names new → AllByRecursion (λ sequence. AllByRecursion (HasName old) sequence.items) sequences
    → AllByRecursion (λ sequence. AllByRecursion (HasName new) sequence.items) sequences
named-grown old names new [] grown named = tt
named-grown old names new (sequence ∷ sequences) grown named = (AllNamed-grown old names new sequence.items grown named.0, named-grown old names new sequences grown named.1)

-- the items of lines and of lines behind them
pub items_of-append : (weighted : Bool) (lines behind : List (List ℕ))
    → items_of (sequences_of_lines weighted (lines ++ behind)) ≡ items_of (sequences_of_lines weighted lines) ++ items_of (sequences_of_lines weighted behind)
items_of-append weighted lines behind =
    ap items_of (map-append (λ line. sequence_of weighted (fields_of line)) lines behind)
    ∙ flat_map-append (λ (sequence : Sequence (List ℕ)). sequence.items) (sequences_of_lines weighted lines) (sequences_of_lines weighted behind)

-- the items of one line more
items_of-more : (weighted : Bool) (lines : List (List ℕ)) (text : List ℕ)
    → items_of (sequences_of_lines weighted (lines ++ text ∷ [])) ≡ items_of (sequences_of_lines weighted lines) ++ (sequence_of weighted (fields_of text)).items
items_of-more weighted lines text = items_of-append weighted lines (text ∷ []) ∙ ap (λ w. items_of (sequences_of_lines weighted lines) ++ w) (append-nil (sequence_of weighted (fields_of text)).items)

-- Good lines that are few enough, with names that are few enough: none of them is refused.
module _ (known : List (List ℕ)) (weighted : Bool) (all new : List (List ℕ)) (few : length all ≤ most_sequences) (grown : GrowBy known (items_of (sequences_of_lines weighted all)) new)
    (room : length new ≤ most_items)
  where
    among : (earlier later : List (List ℕ)) (text : List ℕ) → earlier ++ text ∷ later ≡ all
        → (name : List ℕ) → Contains (known ++ items_of (sequences_of_lines weighted (earlier ++ text ∷ []))) name → Contains (known ++ items_of (sequences_of_lines weighted all)) name
    among earlier later text is name held = elim (Contains-append_cases known _ name held) [
      | inl before ↦ Contains-append_left known _ name before
      | inr met ↦ Contains-append_right known _ name (subst (λ (w : List (List ℕ)). Contains (items_of (sequences_of_lines weighted w)) name) (append_assoc earlier (text ∷ []) later ∙ is)
          (subst (λ (w : List (List ℕ)). Contains w name) (sym (items_of-append weighted (earlier ++ text ∷ []) later)) (Contains-append_left _ (items_of (sequences_of_lines weighted later)) name met)))
    ]

    good_here : (earlier later : List (List ℕ)) (text : List ℕ) → earlier ++ text ∷ later ≡ all → IsGoodLine weighted text
        → (other : Fault) → IsSequenceLineRefusal weighted known earlier text other → ⊥
    good_here earlier later text is good other (inl textual) = no_text_fault Sequences _ text other good.sound textual
    good_here earlier later text is good other (inr (no_text, inl many)) =
        let count = ap length is in let size = length-append earlier (text ∷ later) in let over = many.0 in omega (arith, count, size, few, over)
    good_here earlier later text is good other (inr (no_text, inr (not_many, inl weight))) = good.weighed weight.0 weight.1
    good_here earlier later text is good other (inr (no_text, inr (not_many, inr (weighed, inl long)))) = let short = good.short in let over = long.0 in omega (arith, short, over)
    good_here earlier later text is good other (inr (no_text, inr (not_many, inr (weighed, inr (short, more))))) =
        let (some, apart, inside, many) = more.0 in
        no_more_names most_items known _ new grown room (some, apart, (λ k d lt. among earlier later text is _ (inside k d lt)), many)

    pub good_not_refused : (earlier texts : List (List ℕ)) → earlier ++ texts ≡ all → AllByRecursion (IsGoodLine weighted) texts
        → (other : Fault) → FirstAmong (IsSequenceLineRefusal weighted known) earlier texts other → ⊥
    good_not_refused earlier [] is good other refusal = refusal
    good_not_refused earlier (text ∷ texts) is good other (inl here) = good_here earlier texts text is good.0 other here
    good_not_refused earlier (text ∷ texts) is good other (inr later) = good_not_refused (earlier ++ text ∷ []) texts (append_assoc earlier (text ∷ []) texts ∙ is) good.1 other later.1

module _ (known : List (List ℕ)) (weighted : Bool) where
  -- what a line says is said under the weights of the file
  said_in : (lines : List (List ℕ)) (v : Reading) (text : List ℕ) → IsTaken known weighted lines v → said_to v text ≡ sequence_of weighted (fields_of text)
  said_in lines v text taken = ap (λ b. sequence_of b (fields_of text)) taken.same

  grown_more : (lines : List (List ℕ)) (v w : Reading) (n : ℕ) (text : List ℕ) → IsTaken known weighted lines v → TookLine v n text w
      → GrowBy known (items_of (sequences_of_lines weighted (lines ++ text ∷ []))) w.names
  grown_more lines v w n text taken took =
      let step : GrowBy v.names (sequence_of weighted (fields_of text)).items w.names =
      subst (λ (s : Sequence (List ℕ)). GrowBy v.names s.items w.names) (said_in lines v text taken) took.grown in
      subst (λ items. GrowBy known items w.names) (sym (items_of-more weighted lines text)) (GrowBy-more known _ v.names _ w.names taken.grown step)

  -- as many sequences as lines
  pub counted : (lines : List (List ℕ)) (v : Reading) → IsTaken known weighted lines v → length v.db ≡ length lines
  counted lines v taken = sym (length-map v.db (sequence_by (name_of v.names))) ∙ ap length taken.said ∙ length-map lines (λ line. sequence_of weighted (fields_of line))

  good_line : (lines : List (List ℕ)) (v w : Reading) (n : ℕ) (text : List ℕ) → IsTaken known weighted lines v → TookLine v n text w → IsGoodLine weighted text
  good_line lines v w n text taken took = record {
    sound = took.sound;
    weighed = λ column bad. took.weighed column (subst (λ b. IsBadWeight b (placed_fields_of text) column) (sym taken.same) bad);
    short = subst (λ (s : Sequence (List ℕ)). length s.items ≤ 65535) (said_in lines v text taken) took.short;
  }

  pub IsTaken-more : (lines : List (List ℕ)) (v w : Reading) (n : ℕ) (text : List ℕ) → IsTaken known weighted lines v → TookLine v n text w → IsTaken known weighted (lines ++ text ∷ []) w
  IsTaken-more lines v w n text taken took = record {
    same = took.same ∙ taken.same;
    good = of_both (IsGoodLine weighted) lines (text ∷ []) taken.good (good_line lines v w n text taken took, tt);
    few = let count = counted lines v taken in let few = took.few in let more = length_push lines text in omega (arith, count, few, more);
    grown = grown_more lines v w n text taken took;
    room = took.room;
    named = subst (AllByRecursion (λ (sequence : Sequence Item). AllByRecursion (HasName w.names) sequence.items)) (sym took.pushed)
        (of_both (λ (sequence : Sequence Item). AllByRecursion (HasName w.names) sequence.items) v.db (took.sequence ∷ []) (named-grown v.names _ w.names v.db took.grown taken.named) (took.named, tt));
    said =
        ap (map (sequence_by (name_of w.names))) took.pushed
        ∙ map-append (sequence_by (name_of w.names)) v.db (took.sequence ∷ [])
        ∙ (λ j. (sequences-grown v.names _ w.names v.db took.grown taken.named ∙ taken.said) j ++ (took.said ∙ said_in lines v text taken) j ∷ [])
        ∙ sym (map-append (λ line. sequence_of weighted (fields_of line)) lines (text ∷ []));
  }

  -- a line that was taken is not refused
  accepted : (lines : List (List ℕ)) (v w : Reading) (n : ℕ) (text : List ℕ) → IsTaken known weighted lines v → TookLine v n text w
      → (other : Fault) → IsSequenceLineRefusal weighted known lines text other → ⊥
  accepted lines v w n text taken took other refusal =
      let more = IsTaken-more lines v w n text taken took in
      good_here known weighted (lines ++ text ∷ []) w.names more.few more.grown more.room lines [] text refl (good_line lines v w n text taken took) other refusal

  -- Lines that were taken, one after another

  pub IsTaken-all : (lines texts : List (List ℕ)) (n : ℕ) (v w : Reading) → IsTaken known weighted lines v → WasGiven TookLine n texts v w → IsTaken known weighted (lines ++ texts) w
  IsTaken-all lines [] n v w taken given = subst (λ r. IsTaken known weighted (lines ++ []) r) given (subst (λ l. IsTaken known weighted l v) (sym (append-nil lines)) taken)
  IsTaken-all lines (text ∷ texts) n v w taken (between, took, given) =
      subst (λ l. IsTaken known weighted l w) (append_assoc lines (text ∷ []) texts)
      (IsTaken-all (lines ++ text ∷ []) texts (n + 1) between w (IsTaken-more lines v between n text taken took) given)

  -- none of them is refused
  pub none_refused : (lines : List (List ℕ)) (v : Reading) → IsTaken known weighted lines v → (other : Fault) → FirstAmong (IsSequenceLineRefusal weighted known) [] lines other → ⊥
  none_refused lines v taken = good_not_refused known weighted lines v.names taken.few taken.grown taken.room [] lines refl taken.good

  -- the first refusal behind them is the first of all
  pub first_behind : (lines texts later : List (List ℕ)) (n : ℕ) (v w : Reading) → IsTaken known weighted lines v → WasGiven TookLine n texts v w
      → (other : Fault) → FirstAmong (IsSequenceLineRefusal weighted known) (lines ++ texts) later other → FirstAmong (IsSequenceLineRefusal weighted known) lines (texts ++ later) other
  first_behind lines [] later n v w taken given other refusal = subst (λ l. FirstAmong (IsSequenceLineRefusal weighted known) l later other) (append-nil lines) refusal
  first_behind lines (text ∷ texts) later n v w taken (between, took, given) other refusal =
      inr (
        accepted lines v between n text taken took,
        first_behind (lines ++ text ∷ []) texts later (n + 1) between w (IsTaken-more lines v between n text taken took) given other
            (subst (λ l. FirstAmong (IsSequenceLineRefusal weighted known) l later other) (sym (append_assoc lines (text ∷ []) texts)) refusal),
      )

  -- Why a line is refused

  line_refused : (lines : List (List ℕ)) (v : Reading) (text : List ℕ) (fault : SequenceFault) → IsTaken known weighted lines v → IsSoundLine text
      → IsLineFault v (length lines + 1) text fault → fault ≢ NoMemory → IsSequenceLineRefusal weighted known lines text (fault_of_sequences fault)
  line_refused lines v text ReadFault taken sound why apart = absurd why
  line_refused lines v text TooLarge taken sound why apart = absurd why
  line_refused lines v text (BadByte line column) taken sound why apart = absurd why
  line_refused lines v text (NameTooLong line column) taken sound why apart = absurd why
  line_refused lines v text (TooManySequences line) taken sound why apart =
      let count = counted lines v taken in
      inr ((λ other. no_text_fault Sequences _ text other sound), inl (let over = why.1 in omega (arith, count, over), ap fault.TooManySequences why.0))
  line_refused lines v text (BadWeight line column) taken sound why apart =
      let count = counted lines v taken in
      inr (
        (λ other. no_text_fault Sequences _ text other sound),
        inr (
          (λ other many. let few = why.1 in let over = many.0 in omega (arith, count, few, over)),
          inl (column, subst (λ b. IsBadWeight b (placed_fields_of text) column) taken.same why.2, ap (λ n. fault.BadWeight n column) why.0),
        ),
      )
  line_refused lines v text (TooLong line) taken sound why apart =
      let count = counted lines v taken in
      inr (
        (λ other. no_text_fault Sequences _ text other sound),
        inr (
          (λ other many. let few = why.1 in let over = many.0 in omega (arith, count, few, over)),
          inr (
            (λ other bad. why.2 bad.0 (subst (λ b. IsBadWeight b (placed_fields_of text) bad.0) (sym taken.same) bad.1)),
            inl (subst (λ (s : Sequence (List ℕ)). 65535 < length s.items) (said_in lines v text taken) why.3, ap fault.SequenceTooLong why.0),
          ),
        ),
      )
  line_refused lines v text (TooManyItems line) taken sound why apart =
      let count = counted lines v taken in
      let short : length (sequence_of weighted (fields_of text)).items ≤ 65535 = subst (λ (s : Sequence (List ℕ)). length s.items ≤ 65535) (said_in lines v text taken) why.3 in
      let more : HasMoreNames most_items (v.names ++ (sequence_of weighted (fields_of text)).items) =
      subst (λ (s : Sequence (List ℕ)). HasMoreNames most_items (v.names ++ s.items)) (said_in lines v text taken) why.4 in
      inr (
        (λ other. no_text_fault Sequences _ text other sound),
        inr (
          (λ other many. let few = why.1 in let over = many.0 in omega (arith, count, few, over)),
          inr (
            (λ other bad. why.2 bad.0 (subst (λ b. IsBadWeight b (placed_fields_of text) bad.0) (sym taken.same) bad.1)),
            inr (
              (λ other long. let over = long.0 in omega (arith, short, over)),
              (subst (λ names. HasMoreNames most_items (known ++ names)) (sym (items_of-more weighted lines text)) (HasMoreNames-grown most_items known (items_of (sequences_of_lines weighted lines)) v.names (sequence_of weighted (fields_of text)).items taken.grown more), ap (fault.TooManyItems Sequences) why.0),
            ),
          ),
        ),
      )
  line_refused lines v text NoMemory taken sound why apart = absurd (apart refl)

-- Lines behind those that were taken

module _ (known : List (List ℕ)) (weighted : Bool) (before : List (List ℕ)) (reading after : Reading) (start : IsTaken known weighted before reading) where
  pub more_taken : (lines : List (List ℕ)) → TookAll TookLine lines reading after → IsTaken known weighted (before ++ lines) after
  more_taken lines took = IsTaken-all known weighted before lines 1 reading after start took.given

  -- the first line that is refused
  more_refused : (lines earlier later : List (List ℕ)) (text : List ℕ) (between : Reading) (other : Fault) → lines ≡ earlier ++ text ∷ later → TookAll TookLine earlier reading between
      → IsSequenceLineRefusal weighted known (before ++ earlier) text other
      → FirstAmong (IsSequenceLineRefusal weighted known) before lines other
  more_refused lines earlier later text between other cut took refusal =
      subst (λ l. FirstAmong (IsSequenceLineRefusal weighted known) before l other) (sym cut)
      (first_behind known weighted before earlier (text ∷ later) 1 reading between start took.given other (inl refusal))

  pub stopped_bad : (lines : List (List ℕ)) (line column : ℕ) → StoppedAt TookLine lines reading after bad_byte line column
      → FirstAmong (IsSequenceLineRefusal weighted known) before lines (fault.BadByte Sequences (length after.db + 1) column)
  stopped_bad lines line column stop =
      let count = counted known weighted (before ++ stop.earlier) after (more_taken stop.earlier stop.taken) in
      more_refused lines stop.earlier stop.later stop.text after _ stop.cut stop.taken (inl (column, inl (stop.stands, ap (λ n. fault.BadByte Sequences (n + 1) column) count)))

  pub stopped_long : (lines : List (List ℕ)) (line column : ℕ) → StoppedAt TookLine lines reading after long_name line column
      → FirstAmong (IsSequenceLineRefusal weighted known) before lines (fault.NameTooLong Sequences (length after.db + 1) column)
  stopped_long lines line column stop =
      let count = counted known weighted (before ++ stop.earlier) after (more_taken stop.earlier stop.taken) in
      more_refused lines stop.earlier stop.later stop.text after _ stop.cut stop.taken (inl (column, inr (stop.stands, ap (λ n. fault.NameTooLong Sequences (n + 1) column) count)))

module _ (known : List (List ℕ)) (weighted : Bool) (before : List (List ℕ)) (reading after : Reading) (start : IsTaken known weighted before reading) where
  pub refused_line : (lines : List (List ℕ)) (why : SequenceFault) → Refused TookLine RefusedLine lines reading after why → why ≢ NoMemory
      → FirstAmong (IsSequenceLineRefusal weighted known) before lines (fault_of_sequences why)
  refused_line lines why refusal apart =
      let taken = more_taken known weighted before reading refusal.between start refusal.earlier refusal.taken in
      let count = counted known weighted (before ++ refusal.earlier) refusal.between taken in
      more_refused known weighted before reading refusal.between start lines refusal.earlier refusal.later refusal.text refusal.between _ refusal.cut refusal.taken
      (line_refused known weighted (before ++ refusal.earlier) refusal.between refusal.text why taken refusal.sound
      (subst (λ n. IsLineFault refusal.between (n + 1) refusal.text why) count refusal.answer.why) apart)

-- The old names stay in front

given_kept : (lines : List (List ℕ)) (n : ℕ) (v w : Reading) → WasGiven TookLine n lines v w → (added : List (List ℕ)) × (w.names ≡ v.names ++ added)
given_kept [] n v w same = ([], ap (λ (r : Reading). r.names) (sym same) ∙ sym (append-nil v.names))
given_kept (text ∷ lines) n v w (between, took, given) =
    let later = given_kept lines (n + 1) between w given in
    (took.grown.added ++ later.0, later.1 ∙ ap (λ names. names ++ later.0) took.grown.behind ∙ append_assoc v.names took.grown.added later.0)

pub kept_all : (reading after : Reading) (lines : List (List ℕ)) → TookAll TookLine lines reading after → (added : List (List ℕ)) × (after.names ≡ reading.names ++ added)
kept_all reading after lines took = given_kept lines 1 reading after took.given

pub kept_refused : (reading after : Reading) (lines : List (List ℕ)) (why : SequenceFault) → Refused TookLine RefusedLine lines reading after why
    → (added : List (List ℕ)) × (after.names ≡ reading.names ++ added)
kept_refused reading after lines why refusal =
    let taken = given_kept refusal.earlier 1 reading refusal.between refusal.taken.given in (
      taken.0 ++ refusal.answer.added,
      refusal.answer.kept ∙ ap (λ w. w ++ refusal.answer.added) taken.1 ∙ append_assoc reading.names taken.0 refusal.answer.added,
    )

-- The first refusal of lines, with other lines before and behind

refused_among-from : (known : List (List ℕ)) (weighted : Bool) (all new : List (List ℕ)) → length all ≤ most_sequences → GrowBy known (items_of (sequences_of_lines weighted all)) new → length new ≤ most_items
    → (earlier texts later : List (List ℕ)) → earlier ++ texts ≡ all → AllByRecursion (IsGoodLine weighted) texts
    → (other : Fault) → FirstAmong (IsSequenceLineRefusal weighted known) all later other → FirstAmong (IsSequenceLineRefusal weighted known) earlier (texts ++ later) other
refused_among-from known weighted all new few grown room earlier [] later is good other refusal =
    subst (λ l. FirstAmong (IsSequenceLineRefusal weighted known) l later other) (sym is ∙ append-nil earlier) refusal
refused_among-from known weighted all new few grown room earlier (text ∷ texts) later is good other refusal =
    inr (
      good_here known weighted all new few grown room earlier texts text is good.0,
      refused_among-from known weighted all new few grown room (earlier ++ text ∷ []) texts later (append_assoc earlier (text ∷ []) texts ∙ is) good.1 other refusal,
    )

refused_behind : (known : List (List ℕ)) (weighted : Bool) (before texts later : List (List ℕ)) (other : Fault)
    → FirstAmong (IsSequenceLineRefusal weighted known) before texts other → FirstAmong (IsSequenceLineRefusal weighted known) before (texts ++ later) other
refused_behind known weighted before [] later other refusal = absurd refusal
refused_behind known weighted before (text ∷ texts) later other (inl here) = inl here
refused_behind known weighted before (text ∷ texts) later other (inr more) = inr (more.0, refused_behind known weighted (before ++ text ∷ []) texts later other more.1)

-- the first refusal behind lines that were taken is the first of all
pub refused_among : (known : List (List ℕ)) (weighted : Bool) (before texts later : List (List ℕ)) (v : Reading) → IsTaken known weighted before v
    → (other : Fault) → FirstAmong (IsSequenceLineRefusal weighted known) before texts other
    → FirstAmong (IsSequenceLineRefusal weighted known) [] (before ++ texts ++ later) other
refused_among known weighted before texts later v taken other refusal =
    subst (λ l. FirstAmong (IsSequenceLineRefusal weighted known) [] l other) (sym (append_assoc before texts later))
    (refused_among-from known weighted before v.names taken.few taken.grown taken.room [] before (texts ++ later) refl taken.good other
    (refused_behind known weighted before texts later other refusal))

-- the same names and sequences
pub IsTaken-same : (known : List (List ℕ)) (weighted : Bool) (lines : List (List ℕ)) (v w : Reading) → w.names ≡ v.names → w.db ≡ v.db → w.weighted ≡ v.weighted
    → IsTaken known weighted lines v → IsTaken known weighted lines w
IsTaken-same known weighted lines v w names db same taken = record {
  same = same ∙ taken.same;
  good = taken.good;
  few = taken.few;
  grown = subst (λ n. GrowBy known (items_of (sequences_of_lines weighted lines)) n) (sym names) taken.grown;
  room = subst (λ (n : List (List ℕ)). length n ≤ most_items) (sym names) taken.room;
  named =
      subst (AllByRecursion (λ (sequence : Sequence Item). AllByRecursion (HasName w.names) sequence.items)) (sym db)
      (subst (λ n. AllByRecursion (λ (sequence : Sequence Item). AllByRecursion (HasName n) sequence.items) v.db) (sym names) taken.named);
  said =
      ap (map (sequence_by (name_of w.names))) db
      ∙ subst (λ n. map (sequence_by (name_of n)) v.db ≡ sequences_of_lines weighted lines) (sym names) taken.said;
}

-- Lines of a file that were all taken

module _ (known : List (List ℕ)) (weighted : Bool) (reading : Reading) (lines : List (List ℕ)) (taken : IsTaken known weighted lines reading) where
  pub file-said : (told : Option (List ℕ)) → IfSome told (λ whole. (lines_of whole ≡ lines) × (length whole ≤ most_file_bytes))
      → IfSome told (λ bytes. map (sequence_by (name_of reading.names)) reading.db ≡ sequences_of weighted bytes)
  file-said None is = tt
  file-said (Some whole) is = taken.said ∙ ap (sequences_of_lines weighted) (sym is.0)

  pub file-grown : (told : Option (List ℕ)) → IfSome told (λ whole. (lines_of whole ≡ lines) × (length whole ≤ most_file_bytes))
      → IfSome told (λ bytes. GrowBy known (items_of (sequences_of weighted bytes)) reading.names)
  file-grown None is = tt
  file-grown (Some whole) is = subst (λ l. GrowBy known (items_of (sequences_of_lines weighted l)) reading.names) (sym is.0) taken.grown

  not_refused : (whole : List ℕ) → lines_of whole ≡ lines → length whole ≤ most_file_bytes → (other : Fault) → IsSequencesRefusal weighted known whole other → ⊥
  not_refused whole is few other (inl large) = let over = large.0 in omega (arith, over, few)
  not_refused whole is few other (inr later) =
      none_refused known weighted lines reading taken other (subst (λ l. FirstAmong (IsSequenceLineRefusal weighted known) [] l other) is later.1)

  pub file-accepted : (told : Option (List ℕ)) → IfSome told (λ whole. (lines_of whole ≡ lines) × (length whole ≤ most_file_bytes))
      → IfSome told (λ bytes. (fault : Fault) → IsSequencesRefusal weighted known bytes fault → ⊥)
  file-accepted None is = tt
  file-accepted (Some whole) is = not_refused whole is.0 is.1
