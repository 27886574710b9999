-- The steps of a scan.
use Rattle.std.proofs.Common.{◌≡◌, ℕ, ◌+◌, ◌-◌, ◌≤◌, ◌<◌, inl, inr, true, false, List, [], ◌∷◌, ◌++◌, map, length, take, drop, refl, sym, ap, ◌∙◌, subst, arith, append_assoc, length-append, length-take, length-drop}
use Rattle.std.specs.List.{AllByRecursion, slice_range}
use Rattle.std.proofs.lemmas.List.{append-nil, take-append-drop, map-append, drop-take, take-take, length-take-le}
use Rattle.std.proofs.lemmas.List.Elements.{All-from_recursion}
use Rattle.mine_model.specs.Text.{is_blank, is_bad_byte, is_name_byte, pieces_by_blank, Field, fields_from, placed_fields_of, bad_byte, long_name, IsFirstTextFault, IsSoundLine}
use Rattle.mine_model.specs.Tokens.{BeginsOtherwise}
use Rattle.mine_model.proofs.ListLemmas.{of_both}
use Rattle.text_ports.specs.declared.lines.Span.{Span}
use Rattle.text_ports.specs.Lines.{field_at, IsWithin, AreFields}
use Rattle.text_ports.specs.Scanning.{lines_behind, IsLineByte, IsShort, IsScanned, IsCut, EndsLine, BeginsBadly, BeginsFaulty}
use Rattle.text_ports.proofs.LineLemmas.{name_is_line, blank_is_line, blank_is_no_name, bad_is_no_name, lines_behind-begins, lines_behind-bad, lines_behind-end}
use Rattle.text_ports.proofs.FieldLemmas.{AreNames, pieces_by_blank-names, pieces_by_blank-stop, fields_from-some, IsShort-longer, short_fields, fields_of_front, within_of_short, first_bad, first_long, sound_line}

pub IsScanned-start : (rest : List ℕ) → IsScanned rest 0 []
IsScanned-start rest = record { inside = omega arith; clean = tt; short = tt; fields = λ after. refl }

front_more : (rest : List ℕ) (at end : ℕ) → at ≤ end → take end rest ≡ take at rest ++ slice_range rest at end
front_more rest at end rises =
    let whole : at + (end - at) ≡ end = omega arith in
    let behind : drop at (take end rest) ≡ slice_range rest at end = subst (λ n. drop at (take n rest) ≡ slice_range rest at end) whole (drop-take at (end - at) rest) in
    sym (take-append-drop at (take end rest)) ∙ ap (λ w. w ++ drop at (take end rest)) (take-take at end rest rises) ∙ ap (λ w. take at rest ++ w) behind

names_are_line : (bytes : List ℕ) → AreNames bytes → AllByRecursion IsLineByte bytes
names_are_line [] names = tt
names_are_line (b ∷ bytes) names = (name_is_line b names.0, names_are_line bytes names.1)

-- where no field begins, nothing changes
pub IsCut-none : (rest : List ℕ) (at : ℕ) (spans : List Span) → IsScanned rest at spans → IsCut rest at spans
IsCut-none rest at spans scanned = record {
  inside = scanned.inside;
  clean = scanned.clean;
  short = scanned.short;
  whole = ap placed_fields_of (sym (append-nil (take at rest))) ∙ scanned.fields [] ∙ append-nil (map (field_at rest) spans);
  fields = λ b after stop. scanned.fields (b ∷ after) ∙ ap (λ w. map (field_at rest) spans ++ fields_from (at + 1) w) (pieces_by_blank-stop [] b after tt stop)
      ∙ ap (λ n. map (field_at rest) spans ++ fields_from n (pieces_by_blank after)) (let sum : at + 1 + 1 ≡ at + 2 = omega arith in sum);
}

module _ (rest : List ℕ) (at end : ℕ) (spans : List Span) (scanned : IsScanned rest at spans) (rises : at < end) (inside : end ≤ length rest) (names : AreNames (slice_range rest at end)) where
  piece_length : length (slice_range rest at end) ≡ end - at
  piece_length = length-take-le (end - at) (drop at rest) (rw length-drop (omega arith))

  clean_more : AllByRecursion IsLineByte (take end rest)
  clean_more = rw (front_more rest at end (omega arith)) (of_both IsLineByte (take at rest) (slice_range rest at end) scanned.clean (names_are_line _ names))

  field : Field
  field = field_at rest (record { from = at; to = end })

  -- the fields of what was scanned, of the field, and of what comes behind
  fields_more : (after : List ℕ) (pieces : List (List ℕ)) → pieces_by_blank (slice_range rest at end ++ after) ≡ slice_range rest at end ∷ pieces
      → placed_fields_of (take end rest ++ after) ≡ map (field_at rest) spans ++ field ∷ fields_from (end + 2) pieces
  unfolding field
  fields_more after pieces cut =
      let place : at + 1 + length (slice_range rest at end) + 1 ≡ end + 2 = omega (arith, piece_length) in
      let some : 0 < length (slice_range rest at end) = omega (arith, piece_length) in
      ap placed_fields_of (ap (λ w. w ++ after) (front_more rest at end (omega arith)) ∙ append_assoc (take at rest) (slice_range rest at end) after)
      ∙ scanned.fields (slice_range rest at end ++ after)
      ∙ ap (λ w. map (field_at rest) spans ++ w)
      (ap (fields_from (at + 1)) cut ∙ fields_from-some (at + 1) (slice_range rest at end) pieces some ∙ ap (λ n. field ∷ fields_from n pieces) place)

  fields_last : placed_fields_of (take end rest) ≡ map (field_at rest) spans ++ field ∷ []
  fields_last =
      ap placed_fields_of (sym (append-nil (take end rest)))
      ∙ fields_more [] [] (ap pieces_by_blank (append-nil (slice_range rest at end)) ∙ pieces_by_blank-names _ names)

  -- a field that is short enough
  pub IsCut-field : (new : List Span) → end ≤ at + 255 → new ≡ spans ++ (record { from = at; to = end }) ∷ [] → IsCut rest end new
  unfolding field
  IsCut-field new few pushed =
      let all : map (field_at rest) new ≡ map (field_at rest) spans ++ field ∷ [] =
      ap (map (field_at rest)) pushed ∙ map-append (field_at rest) spans ((record { from = at; to = end }) ∷ []) in
      record {
        inside = inside;
        clean = clean_more;
        short = rw pushed (of_both (IsShort end) spans ((record { from = at; to = end }) ∷ []) (IsShort-longer at end spans (omega arith) scanned.short)
            (record { within = record { rises = omega arith; ends = omega arith }; short = few }, tt));
        whole = fields_last ∙ sym all;
        fields = λ b after stop. fields_more (b ∷ after) (pieces_by_blank after) (pieces_by_blank-stop _ b after names stop)
            ∙ sym (append_assoc (map (field_at rest) spans) (field ∷ []) (fields_from (end + 2) (pieces_by_blank after)))
            ∙ ap (λ w. w ++ fields_from (end + 2) (pieces_by_blank after)) (sym all);
      }

  -- a field that is too long
  pub IsCut-long : at + 255 < end → BeginsOtherwise is_name_byte (drop end rest) → BeginsFaulty rest long_name (at + 255 + 1)
  unfolding field
  IsCut-long long stop =
      let size : length (take end rest) ≡ end = length-take-le end rest inside in
      let (more, later, lines, goes_on) = lines_behind-begins (take end rest) (drop end rest) clean_more (omega (arith, size)) stop in
      let (pieces, placed) = placed_with more goes_on in
      let first = first_long (take end rest) more (map (field_at rest) spans) field pieces clean_more (short_fields rest at spans scanned.short)
      (placed ∙ ap (λ n. map (field_at rest) spans ++ field ∷ fields_from (n + 2) pieces) (sym size)) (omega (arith, piece_length)) (omega (arith, piece_length, size)) in
      let sum : at + 1 + 255 ≡ at + 255 + 1 = omega arith in
      (take end rest ++ more, later, ap lines_behind (sym (take-append-drop end rest)) ∙ lines, subst (λ n. IsFirstTextFault (take end rest ++ more) long_name n) sum first)
    where
      placed_with : (more : List ℕ) → BeginsOtherwise is_name_byte more → (pieces : List (List ℕ)) × (placed_fields_of (take end rest ++ more) ≡ map (field_at rest) spans ++ field ∷ fields_from (end + 2) pieces)
      placed_with [] goes_on = ([], ap placed_fields_of (append-nil (take end rest)) ∙ fields_last)
      placed_with (b ∷ after) goes_on = (pieces_by_blank after, fields_more (b ∷ after) (pieces_by_blank after) (pieces_by_blank-stop _ b after names goes_on))

module _ (rest : List ℕ) (at : ℕ) (spans : List Span) (cut : IsCut rest at spans) where
  size : length (take at rest) ≡ at
  size = length-take-le at rest cut.inside

  -- over a blank
  pub IsScanned-blank : (b : ℕ) → drop at rest ≡ b ∷ drop (at + 1) rest → is_blank b ≡ true → at < length rest → IsScanned rest (at + 1) spans
  IsScanned-blank b is blank within =
      let front : take (at + 1) rest ≡ take at rest ++ b ∷ [] =
      front_more rest at (at + 1) (omega arith) ∙ ap (λ w. take at rest ++ w) (ap (λ n. take n (drop at rest)) (let one : (at + 1) - at ≡ 1 = omega arith in one) ∙ ap (take 1) is) in
      record {
        inside = omega arith;
        clean = rw front (of_both IsLineByte (take at rest) (b ∷ []) cut.clean (blank_is_line b blank, tt));
        short = IsShort-longer at (at + 1) spans (omega arith) cut.short;
        fields = λ after. ap placed_fields_of (ap (λ w. w ++ after) front ∙ append_assoc (take at rest) (b ∷ []) after) ∙ cut.fields b after (blank_is_no_name b blank)
            ∙ ap (λ n. map (field_at rest) spans ++ fields_from n (pieces_by_blank after)) (let sum : at + 2 ≡ at + 1 + 1 = omega arith in sum);
      }

  -- the whole line
  pub AreFields-cut : AreFields (take at rest) spans
  AreFields-cut =
      let short : AllByRecursion (IsShort (length (take at rest))) spans = rw size cut.short in
      record {
        within = All-from_recursion (IsWithin (length (take at rest))) spans (within_of_short _ spans short);
        fields = sym (subst (λ w. map (field_at w) spans ≡ map (field_at (take at rest)) spans) (take-append-drop at rest) (fields_of_front (take at rest) (drop at rest) spans short)) ∙ sym cut.whole;
      }

  pub IsSoundLine-cut : IsSoundLine (take at rest)
  IsSoundLine-cut = sound_line (take at rest) (map (field_at rest) spans) cut.clean (short_fields rest at spans cut.short) cut.whole

  pub lines_behind-cut : (next : ℕ) → 0 < length rest → EndsLine (drop at rest) (drop next rest) → lines_behind rest ≡ take at rest ∷ lines_behind (drop next rest)
  lines_behind-cut next some ends =
      let whole = take-append-drop at rest in
      ap lines_behind (sym whole) ∙ lines_behind-end (take at rest) (drop at rest) (drop next rest) cut.clean ends (rw whole some)

  -- a bad byte
  pub BeginsFaulty-bad : BeginsBadly (drop at rest) → BeginsFaulty rest bad_byte (at + 1)
  BeginsFaulty-bad bad =
      let (b, after, later, is_bad, lines) = lines_behind-bad (take at rest) (drop at rest) cut.clean bad in
      let first = first_bad (take at rest) b after (map (field_at rest) spans) (pieces_by_blank after) cut.clean is_bad (short_fields rest at spans cut.short)
      (rw size (cut.fields b after (bad_is_no_name b is_bad))) in
      (take at rest ++ b ∷ after, later, ap lines_behind (sym (take-append-drop at rest)) ∙ lines, subst (λ n. IsFirstTextFault (take at rest ++ b ∷ after) bad_byte (n + 1)) size first)
