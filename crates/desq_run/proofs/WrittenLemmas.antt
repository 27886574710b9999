-- The lines of a proof that is written are sound.
use Rattle.std.proofs.Common.{◌≡◌, ◌≤◌, ◌<◌, ◌^◌, ◌+◌, ◌∙◌, ◌↔◌, ℕ, true, List, [], ◌∷◌, ◌++◌, map, length, Contains, refl, sym, ap, subst, arith}
use Rattle.std.specs.List.{AllByRecursion, flat_map}
use Rattle.std.specs.Char.{is_ascii_digit}
use Rattle.std.specs.Fmt.{decimal}
use Rattle.std.proofs.lemmas.Fmt.{length-decimal-le}
use Rattle.mine_model.specs.Answer.{Data}
use Rattle.mine_model.specs.Expression.{unfolded_leaves}
use Rattle.mine_model.specs.Limits.{most_leaves, most_sequences, most_name_bytes}
use Rattle.mine_model.specs.Names.{name_of, named_row, IsFileName}
use Rattle.mine_model.specs.Text.{lines_of, is_name_byte, pieces_by_blank, Field, fields_from, placed_fields_of, IsSoundLine}
use Rattle.mine_model.proofs.ListLemmas.{of_both, AllByRecursion-weaker}
use Rattle.text_ports.specs.Scanning.{IsLineByte}
use Rattle.text_ports.proofs.FieldLemmas.{sound_line}
use Rattle.text_ports.proofs.LineLemmas.{name_is_line, blank_is_line}
use Rattle.text_ports.proofs.DecimalLemmas.{decimal-is, digit-name}
use Rattle.split_merge.specs.Merging.{IsOutputRow}
use Rattle.split_merge.proofs.SoundLemmas.{join-pieces, body-sound}
use Rattle.pattern_proof.specs.ProofLines.{Cited, Entry, spaced, AreFileNames, text_of_entry}
use Rattle.pattern_proof.proofs.TextLemmas.{join-spaced}
use Rattle.pattern_proof.proofs.WrittenLemmas.{path_text, texts_of, IsWritable, lines-written}
use Rattle.proof_names.specs.NamedProofs.{ProofRow, Shows, proof_text}
use Rattle.proof_names.proofs.FullLemmas.{text-named}
use Rattle.proof_names.proofs.NamedSayLemmas.{named_entry, names-back}
use Rattle.proof_names.proofs.AnswerProofLemmas.{path-small}

-- Lines

fields-short : (column : ℕ) (pieces : List (List ℕ)) → AllByRecursion (λ p. length p ≤ 255) pieces → AllByRecursion (λ (f : Field). length f.text ≤ 255) (fields_from column pieces)
fields-short column [] all = tt
fields-short column ([] ∷ pieces) all = fields-short (column + 1) pieces all.1
fields-short column ((b ∷ bytes) ∷ pieces) all = (all.0, fields-short (column + length (b ∷ bytes) + 1) pieces all.1)

-- a line of bytes of lines is sound where its pieces are short
line-sound : (text : List ℕ) (pieces : List (List ℕ)) → AllByRecursion IsLineByte text → pieces_by_blank text ≡ pieces → AllByRecursion (λ p. length p ≤ 255) pieces → IsSoundLine text
line-sound text pieces clean same short =
    sound_line text (placed_fields_of text) clean (subst (λ l. AllByRecursion (λ (f : Field). length f.text ≤ 255) (fields_from 1 l)) (sym same) (fields-short 1 pieces short)) refl

number-named : (n : ℕ) → n < 2 ^ 64 → IsFileName (decimal n)
number-named n small = (
  (decimal-is n small).1,
  AllByRecursion-weaker (λ b. is_ascii_digit b ≡ true) (λ b. is_name_byte b ≡ true) digit-name (decimal n) (decimal-is n small).0,
)

number-short : (n : ℕ) → n < 2 ^ 64 → length (decimal n) ≤ 255
number-short n small = let l = length-decimal-le 20 n (omega arith) (omega (arith, small)) small in omega (arith, l)

number-clean : (n : ℕ) → n < 2 ^ 64 → AllByRecursion IsLineByte (decimal n)
number-clean n small =
    AllByRecursion-weaker (λ b. is_ascii_digit b ≡ true) IsLineByte (λ b is. name_is_line b (digit-name b is)) (decimal n) (decimal-is n small).0

numbers-named : (numbers : List ℕ) → AllByRecursion (λ n. n < 2 ^ 64) numbers → AllByRecursion IsFileName (map (λ n. decimal n) numbers)
numbers-named [] small = tt
numbers-named (n ∷ numbers) small = (number-named n small.0, numbers-named numbers small.1)

numbers-short : (numbers : List ℕ) → AllByRecursion (λ n. n < 2 ^ 64) numbers → AllByRecursion (λ p. length p ≤ 255) (map (λ n. decimal n) numbers)
numbers-short [] small = tt
numbers-short (n ∷ numbers) small = (number-short n small.0, numbers-short numbers small.1)

numbers-clean : (numbers : List ℕ) → AllByRecursion (λ n. n < 2 ^ 64) numbers → AllByRecursion IsLineByte (spaced (map (λ n. decimal n) numbers))
numbers-clean [] small = tt
numbers-clean (n ∷ numbers) small =
    (blank_is_line 32 refl, of_both IsLineByte (decimal n) (spaced (map (λ n. decimal n) numbers)) (number-clean n small.0) (numbers-clean numbers small.1))

path-sound : (path : Cited) → path.place + 1 < 2 ^ 64 → AllByRecursion (λ n. n < 2 ^ 64) path.states → IsSoundLine (path_text path)
path-sound path small states =
    let first = decimal (path.place + 1) in
    let words = map (λ n. decimal n) path.states in
    let pieces : pieces_by_blank (first ++ spaced words) ≡ first ∷ words =
    ap pieces_by_blank (sym (join-spaced first words))
    ∙ join-pieces (first ∷ words) (λ none. cc) (number-named (path.place + 1) small, numbers-named path.states states) in
    line-sound (path_text path) ([] ∷ first ∷ words)
    (blank_is_line 9 refl, of_both IsLineByte first (spaced words) (number-clean (path.place + 1) small) (numbers-clean path.states states))
    (ap (λ l. [] ∷ l) pieces) (omega arith, (number-short (path.place + 1) small, numbers-short path.states states))

module _ (d : Data (List ℕ)) (few : length d.sequences ≤ most_sequences) (small : unfolded_leaves d.expression ≤ most_leaves)
    (known names : List (List ℕ)) (sound : AreFileNames names) (held : (name : List ℕ) → (Contains known name ↔ Contains names name)) where
  -- a row with its paths that is written so that each of its lines is sound
  pub record IsFit (row : ProofRow) : Type 0 where
    pub named : AllByRecursion (Contains known) row.row.pattern
    pub output : IsOutputRow d.threshold row.row
    pub short : AllByRecursion (λ name. length name ≤ most_name_bytes) row.row.pattern
    pub each : AllByRecursion (Shows d row.row.pattern) row.paths

  entries-of : (rows : List ProofRow) → AllByRecursion IsFit rows
      → (entries : List Entry) × (map (named_entry names) entries ≡ rows) × AllByRecursion (IsWritable names) entries × AllByRecursion (λ (e : Entry). IsFit (named_entry names e)) entries
  entries-of [] fit = ([], refl, tt, tt)
  entries-of (row ∷ rows) fit =
      let (items, same, inside) = names-back names known held row.row.pattern fit.0.named in
      let (entries, rest, writable, fits) = entries-of rows fit.1 in
      let entry : Entry = record { row = record { pattern = items; support = row.row.support }; paths = row.paths } in
      let one : named_entry names entry ≡ row = λ i. record { row = record { pattern = same i; support = row.row.support }; paths = row.paths } in (
        entry ∷ entries,
        (λ i. one i ∷ rest i),
        (
          record {
            small = (let most = fit.0.output.most in omega (arith, most));
            some = λ none. fit.0.output.some (sym same ∙ ap (map (name_of names)) none);
            known = inside;
            paths = AllByRecursion-weaker (Shows d row.row.pattern) (λ (path : Cited). (path.place + 1 < 2 ^ 64) × AllByRecursion (λ n. n < 2 ^ 64) path.states)
                (λ path shows. path-small d few small row.row.pattern path shows) row.paths fit.0.each;
          },
          writable,
        ),
        (subst IsFit (sym one) fit.0, fits),
      )

  paths-sound : (paths : List Cited) → AllByRecursion (λ path. (path.place + 1 < 2 ^ 64) × AllByRecursion (λ n. n < 2 ^ 64) path.states) paths → AllByRecursion IsSoundLine (map path_text paths)
  paths-sound [] all = tt
  paths-sound (path ∷ paths) all = (path-sound path all.0.0 all.0.1, paths-sound paths all.1)

  texts-sound : (entries : List Entry) → AllByRecursion (IsWritable names) entries → AllByRecursion (λ (e : Entry). IsFit (named_entry names e)) entries
      → AllByRecursion IsSoundLine (flat_map (texts_of names) entries)
  texts-sound [] writable fit = tt
  texts-sound (entry ∷ entries) writable fit = (
    body-sound d.threshold (named_row names entry.row) fit.0.output fit.0.short,
    of_both IsSoundLine (map path_text entry.paths) (flat_map (texts_of names) entries) (paths-sound entry.paths writable.0.paths) (texts-sound entries writable.1 fit.1),
  )

  pub rows-sound : (rows : List ProofRow) → AllByRecursion IsFit rows → AllByRecursion IsSoundLine (lines_of (proof_text rows))
  rows-sound rows fit =
      let (entries, same, writable, fits) = entries-of rows fit in
      let text : flat_map (text_of_entry names) entries ≡ proof_text rows = text-named names entries ∙ ap proof_text same in
      subst (λ b. AllByRecursion IsSoundLine (lines_of b)) text
      (subst (AllByRecursion IsSoundLine) (sym (lines-written names sound entries writable)) (texts-sound entries writable fits))
