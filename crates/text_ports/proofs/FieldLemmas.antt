-- Lemmas on the fields of a line and on its faults.
use Rattle.std.proofs.Common.{◌≡◌, ℕ, suc, ◌+◌, ◌-◌, ◌≤◌, ◌<◌, ◌⊎◌, inl, inr, Bool, true, false, List, [], ◌∷◌, ◌++◌, map, length, take, drop, get_or, min, refl, sym, ap, ◌∙◌, subst, arith, append_assoc, length-append, length-take, length-drop, true≢false}
use Rattle.std.specs.List.{AllByRecursion, Contains, All, slice_range}
use Rattle.std.proofs.lemmas.List.{append-nil, take-append-drop, map-append, drop-take, take-take, get_or-drop, take_more}
use Rattle.std.proofs.lemmas.List.Elements.{Contains-append_right, Contains-append_cases}
use Rattle.mine_model.specs.Text.{is_bad_byte, is_name_byte, pieces_by_blank, onto_first, Field, fields_from, placed_fields_of, TextFault, bad_byte, long_name, HasTextFault, IsFirstTextFault, IsSoundLine}
use Rattle.mine_model.specs.Tokens.{BeginsOtherwise}
use Rattle.mine_model.proofs.ListLemmas.{Contains-cases, Contains-first, Contains-other, Contains-none, AllByRecursion-contained, of_both, front_of_both, back_of_both, slice_range-append}
use Rattle.text_ports.specs.declared.lines.Span.{Span}
use Rattle.text_ports.specs.Lines.{field_at, IsWithin, AreFields}
use Rattle.text_ports.specs.Scanning.{lines_behind, IsLineByte, IsShort, IsScanned, IsCut, EndsLine, BeginsBadly, BeginsFaulty}
use Rattle.text_ports.proofs.LineLemmas.{name_is_line, blank_is_line, blank_is_no_name, bad_is_no_name, lines_behind-begins, lines_behind-bad}

-- The pieces of a line

abbrev pub AreNames : List ℕ → Type 0
AreNames bytes = AllByRecursion (λ b. is_name_byte b ≡ true) bytes

pub pieces_by_blank-names : (piece : List ℕ) → AreNames piece → pieces_by_blank piece ≡ piece ∷ []
pieces_by_blank-names [] names = refl
pieces_by_blank-names (b ∷ piece) names = rw names.0 (ap (onto_first b) (pieces_by_blank-names piece names.1))

pub pieces_by_blank-stop : (piece : List ℕ) (b : ℕ) (after : List ℕ) → AreNames piece → is_name_byte b ≡ false → pieces_by_blank (piece ++ b ∷ after) ≡ piece ∷ pieces_by_blank after
pieces_by_blank-stop [] b after names stop = rw stop refl
pieces_by_blank-stop (c ∷ piece) b after names stop = rw names.0 (ap (onto_first c) (pieces_by_blank-stop piece b after names.1 stop))

-- a field and what comes behind it
pub fields_from-some : (column : ℕ) (piece : List ℕ) (pieces : List (List ℕ)) → 0 < length piece
    → fields_from column (piece ∷ pieces) ≡ (record { column = column; text = piece }) ∷ fields_from (column + length piece + 1) pieces
fields_from-some column [] pieces some = absurd (omega arith)
fields_from-some column (b ∷ piece) pieces some = refl

weaken : (m n : ℕ) (fields : List Field) → n ≤ m → AllByRecursion (λ field. m ≤ field.column) fields → AllByRecursion (λ field. n ≤ field.column) fields
weaken m n [] le all = tt
weaken m n (field ∷ fields) le all = (let first = all.0 in omega (arith, first), weaken m n fields le all.1)

-- fields stand where they are counted from, or later
fields_from-later : (column : ℕ) (pieces : List (List ℕ)) → AllByRecursion (λ field. column ≤ field.column) (fields_from column pieces)
fields_from-later column [] = tt
fields_from-later column ([] ∷ pieces) = weaken (column + 1) column (fields_from (column + 1) pieces) (omega arith) (fields_from-later (column + 1) pieces)
fields_from-later column ((b ∷ piece) ∷ pieces) =
    let behind : ℕ = column + length (b ∷ piece) + 1 in
    (omega arith, weaken behind column (fields_from behind pieces) (omega arith) (fields_from-later behind pieces))

-- Spans

pub IsShort-longer : (m n : ℕ) (spans : List Span) → m ≤ n → AllByRecursion (IsShort m) spans → AllByRecursion (IsShort n) spans
IsShort-longer m n [] le short = tt
IsShort-longer m n (span ∷ spans) le short =
    (record { within = record { rises = short.0.within.rises; ends = let ends = short.0.within.ends in omega (arith, ends) }; short = short.0.short }, IsShort-longer m n spans le short.1)

-- the fields of short spans are short
pub short_fields : (rest : List ℕ) (n : ℕ) (spans : List Span) → AllByRecursion (IsShort n) spans → AllByRecursion (λ field. length field.text ≤ 255) (map (field_at rest) spans)
short_fields rest n [] short = tt
short_fields rest n (span ∷ spans) short = (let few = short.0.short in rw length-take (omega (arith, few)), short_fields rest n spans short.1)

-- the fields within the front of the bytes are those of the front
pub fields_of_front : (text rest : List ℕ) (spans : List Span) → AllByRecursion (IsShort (length text)) spans → map (field_at (text ++ rest)) spans ≡ map (field_at text) spans
fields_of_front text rest [] short = refl
fields_of_front text rest (span ∷ spans) short =
    let same : field_at (text ++ rest) span ≡ field_at text span =
    ap (λ (w : List ℕ). record { column = span.from + 1; text = w }) (slice_range-append text rest span.from span.to short.0.within.rises short.0.within.ends) in
    let others = fields_of_front text rest spans short.1 in cc (same, others)

pub within_of_short : (n : ℕ) (spans : List Span) → AllByRecursion (IsShort n) spans → AllByRecursion (IsWithin n) spans
within_of_short n [] short = tt
within_of_short n (span ∷ spans) short = (short.0.within, within_of_short n spans short.1)

-- Faults

-- a bad byte does not stand among line bytes
earlier_good : (text rest before : List ℕ) (b : ℕ) (after : List ℕ) → AllByRecursion IsLineByte text → text ++ rest ≡ before ++ b ∷ after → is_bad_byte b ≡ true → length text ≤ length before
earlier_good [] rest before b after clean same bad = omega arith
earlier_good (x ∷ text) rest [] b after clean same bad =
    let first : x ≡ b = cc in absurd (true≢false (sym bad ∙ ap is_bad_byte (sym first) ∙ clean.0.good))
earlier_good (x ∷ text) rest (y ∷ before) b after clean same bad =
    let tails : text ++ rest ≡ before ++ b ∷ after = cc in
    let le = earlier_good text rest before b after clean.1 tails bad in omega (arith, le)

-- the first fault of a line is the bad byte behind what was scanned
pub first_bad : (text : List ℕ) (b : ℕ) (after : List ℕ) (fields : List Field) (pieces : List (List ℕ)) → AllByRecursion IsLineByte text → is_bad_byte b ≡ true
    → AllByRecursion (λ field. length field.text ≤ 255) fields
    → placed_fields_of (text ++ b ∷ after) ≡ fields ++ fields_from (length text + 2) pieces
    → IsFirstTextFault (text ++ b ∷ after) bad_byte (length text + 1)
first_bad text b after fields pieces clean bad short placed = ((text, b, after, refl, refl, bad), by)
  where
    by : (other : TextFault) (elsewhere : ℕ) → HasTextFault (text ++ b ∷ after) other elsewhere → length text + 1 ≤ elsewhere
    by bad_byte elsewhere (before, c, behind, same, at, is_bad) =
        let le = earlier_good text (b ∷ after) before c behind clean same is_bad in omega (arith, le, at)
    by long_name elsewhere (field, inside, long, at) =
        elim (Contains-append_cases fields (fields_from (length text + 2) pieces) field (subst (λ (w : List Field). Contains w field) placed inside)) [
          | inl here ↦ let few = AllByRecursion-contained (λ (f : Field). length f.text ≤ 255) fields field short here in absurd (omega (arith, few, long))
          | inr there ↦ let later = AllByRecursion-contained (λ (f : Field). length text + 2 ≤ f.column) _ field (fields_from-later (length text + 2) pieces) there in omega (arith, later, at)
        ]

-- the first fault of a line is the byte of its first long name that is too many
pub first_long : (text more : List ℕ) (fields : List Field) (long_field : Field) (pieces : List (List ℕ)) → AllByRecursion IsLineByte text
    → AllByRecursion (λ field. length field.text ≤ 255) fields
    → placed_fields_of (text ++ more) ≡ fields ++ long_field ∷ fields_from (length text + 2) pieces
    → 255 < length long_field.text → long_field.column + length long_field.text ≡ length text + 1
    → IsFirstTextFault (text ++ more) long_name (long_field.column + 255)
first_long text more fields long_field pieces clean short placed long ends =
    ((long_field, subst (λ (w : List Field). Contains w long_field) (sym placed) (Contains-append_right fields _ long_field (Contains-first long_field _)), long, refl), by)
  where
    by : (other : TextFault) (elsewhere : ℕ) → HasTextFault (text ++ more) other elsewhere → long_field.column + 255 ≤ elsewhere
    by bad_byte elsewhere (before, c, behind, same, at, is_bad) =
        let le = earlier_good text more before c behind clean same is_bad in omega (arith, le, at, long, ends)
    by long_name elsewhere (field, inside, is_long, at) =
        elim (Contains-append_cases fields (long_field ∷ fields_from (length text + 2) pieces) field (subst (λ (w : List Field). Contains w field) placed inside)) [
          | inl here ↦ let few = AllByRecursion-contained (λ (f : Field). length f.text ≤ 255) fields field short here in absurd (omega (arith, few, is_long))
          | inr there ↦ elim (Contains-cases long_field (fields_from (length text + 2) pieces) field there) [
            | inl same ↦ let where_it_is : field.column ≡ long_field.column = ap (λ (f : Field). f.column) same in omega (arith, where_it_is, at)
            | inr later ↦ let beyond = AllByRecursion-contained (λ (f : Field). length text + 2 ≤ f.column) _ field (fields_from-later (length text + 2) pieces) later in omega (arith, beyond, at, long, ends)
          ]
        ]

-- a line of line bytes with short fields is sound
pub sound_line : (text : List ℕ) (fields : List Field) → AllByRecursion IsLineByte text → AllByRecursion (λ field. length field.text ≤ 255) fields → placed_fields_of text ≡ fields → IsSoundLine text
sound_line text fields clean short placed bad_byte column (before, b, after, same, at, bad) =
    let le = earlier_good text [] before b after clean (append-nil text ∙ same) bad in
    let whole = ap length same ∙ length-append before (b ∷ after) in absurd (omega (arith, le, whole))
sound_line text fields clean short placed long_name column (field, inside, long, at) =
    let few = AllByRecursion-contained (λ (f : Field). length f.text ≤ 255) fields field short (subst (λ (w : List Field). Contains w field) placed inside) in absurd (omega (arith, few, long))

-- one more byte of a name
pub names-more : (rest : List ℕ) (from at d : ℕ) → from ≤ at → at < length rest → AllByRecursion (λ b. is_name_byte b ≡ true) (slice_range rest from at) → is_name_byte (get_or rest at d) ≡ true
    → AllByRecursion (λ b. is_name_byte b ≡ true) (slice_range rest from (at + 1))
names-more rest from at d rises within names is =
    let count : (at + 1) - from ≡ (at - from) + 1 = omega arith in
    let place : from + (at - from) ≡ at = omega arith in
    let fits : at - from < length (drop from rest) = rw length-drop (omega arith) in
    let last : is_name_byte (get_or (drop from rest) (at - from) d) ≡ true = rw (get_or-drop, place) is in
    rw (count, take_more (drop from rest) (at - from) d fits)
    (of_both (λ b. is_name_byte b ≡ true) (slice_range rest from at) (get_or (drop from rest) (at - from) d ∷ []) names (last, tt))
