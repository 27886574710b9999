-- The rows of a proof, one after another.
use Rattle.std.proofs.Common.{◌≡◌, ℕ, ◌+◌, List, [], ◌∷◌, ◌++◌, map, take, drop, Option, Some, None, IfSome, Result, Ok, Err, IfOk, OnOk, OnErr, refl, sym, ap, ◌∙◌, arith, Contains, append_assoc, length-drop}
use Rattle.std.specs.List.{AllByRecursion, flat_map, slice_get}
use Rattle.std.proofs.lemmas.List.{get_or-drop, append-nil, map-append, take-append-drop, take_more}
use Rattle.std.proofs.lemmas.List.Concat.{flat_map-append}
use Rattle.std.proofs.lemmas.Option.{slice_get-get_or, slice_get_within, get_or_from_slice_get}
use Rattle.mine_model.specs.declared.row.Row.{Row}
use Rattle.mine_model.specs.AnswerText.{line_of}
use Rattle.mine_model.specs.Names.{named_row}
use Rattle.mine_model.proofs.ListLemmas.{Contains-first, Contains-other, of_both}
use Rattle.mining_job.specs.Problems.{Problem, IsWhole}
use Rattle.pattern_writer.specs.Written.{IsHeld, IsCut}
use Rattle.pattern_writer.proofs.WrittenLemmas.{held_then, cut_then, cut_more}
use Rattle.pattern_proof.specs.declared.listing.Lists.{Lists}
use Rattle.pattern_proof.specs.Listing.{AreLists}
use Rattle.pattern_proof.specs.Writings.{AreOfAnswer, GainsProof, GainsPart}
use Rattle.pattern_proof.specs.ProofLines.{Cited, Entry, path_line_of, text_of_entry}
use Rattle.pattern_proof.specs.Proofs.{IsFull, IsProofOf}
use Rattle.pattern_proof.specs.Putting.{entry_of, HoldsPaths, CutsPaths, HoldsEntry, CutsEntry}
use Rattle.pattern_proof.proofs.CitedLemmas.{all-there}
use Rattle.pattern_proof.proofs.FindingLemmas.{drop-got}

module _ (problem : Problem) (names : List (List ℕ)) (row : Row) (before between after : Option (List ℕ)) (held front : List ℕ) where
  abbrev line : List ℕ
  line = line_of (named_row names row)

  -- a row and its paths are an entry
  pub entry-held : {E : Type 0} (r : Result ℕ E) (text : List ℕ) → IsHeld before between held (front ++ line) → IfOk r (λ n. HoldsPaths problem row between after (take n text) held)
      → IfOk r (λ n. HoldsEntry problem names row before after (take n text) front)
  entry-held (Err e) text first then = tt
  entry-held (Ok n) text first (paths, full, rest) =
      (paths, full, held_then before between after held (front ++ line) (flat_map path_line_of paths) (take n text) _ first rest (append_assoc front line (flat_map path_line_of paths)))

  pub entry-cut : {T E : Type 0} (r : Result T E) → IsHeld before between held (front ++ line) → OnErr r (CutsPaths problem row between after held) → OnErr r (CutsEntry problem names row before after front)
  entry-cut (Ok v) first then = tt
  entry-cut (Err e) first (paths, full, rest) =
      (paths, full, cut_then before between after held (front ++ line) (flat_map path_line_of paths) _ first rest (append_assoc front line (flat_map path_line_of paths)))

  pub row-cut-off : (paths : List Cited) → IsFull problem (entry_of row paths) → IsCut before after (front ++ line) → CutsEntry problem names row before after front
  row-cut-off paths full cut = (paths, full, cut_more before after (front ++ line) (flat_map path_line_of paths) _ cut (append_assoc front line (flat_map path_line_of paths)))

-- entries of rows that each have one
entries-of : (problem : Problem) (rows : List Row) → ((row : Row) → Contains rows row → (paths : List Cited) × IsFull problem (entry_of row paths))
    → (entries : List Entry) × (map (λ (entry : Entry). entry.row) entries ≡ rows) × AllByRecursion (IsFull problem) entries
entries-of problem [] each = ([], refl, tt)
entries-of problem (row ∷ rows) each =
    let (paths, full) = each row (Contains-first row rows) in
    let (entries, same, all) = entries-of problem rows (λ other held. each other (Contains-other row rows other held)) in
    (entry_of row paths ∷ entries, ap (λ l. row ∷ l) same, (full, all))

contains-drop : (rows : List Row) (n : ℕ) (row : Row) → Contains (drop n rows) row → Contains rows row
contains-drop rows n row (k, inside, is) = (n + k, omega (arith, inside, length-drop n rows), sym (get_or-drop n rows k row) ∙ is)

-- what a sink gained of a proof
pub gains-proof : {T E : Type 0} (r : Result T E) (problem : Problem) (names : List (List ℕ)) (rows : List Row) (before after : Option (List ℕ)) (bytes : List ℕ) → IsProofOf problem names rows bytes
    → OnOk r (IfSome before (λ told. after ≡ Some (told ++ bytes))) → OnOk r (GainsProof problem names rows before after)
gains-proof (Err e) problem names rows before after bytes proof gains = tt
gains-proof (Ok v) problem names rows None after bytes proof gains = tt
gains-proof (Ok v) problem names rows (Some told) after bytes proof gains = (bytes, proof, gains)

pub gains-part : (problem : Problem) (names : List (List ℕ)) (rows : List Row) (before after : Option (List ℕ)) (bytes : List ℕ) → IsProofOf problem names rows bytes
    → IsCut before after bytes → GainsPart problem names rows before after
gains-part problem names rows None after bytes proof cut = tt
gains-part problem names rows (Some told) after bytes proof (n, less, is) = (bytes, proof, n, less, is)

pub gains-part-last : {T E : Type 0} (r : Result T E) (problem : Problem) (names : List (List ℕ)) (rows : List Row) (before after : Option (List ℕ)) (bytes : List ℕ) → IsProofOf problem names rows bytes
    → OnErr r (IsCut before after bytes) → OnErr r (GainsPart problem names rows before after)
gains-part-last (Ok v) problem names rows before after bytes proof cut = tt
gains-part-last (Err e) problem names rows before after bytes proof cut = gains-part problem names rows before after bytes proof cut

module _ (problem : Problem) (whole : IsWhole problem) (names : List (List ℕ)) (rows : List Row) (lists : Lists) (answer : AreOfAnswer problem rows) (are : AreLists problem lists rows) where
  -- each row has all its paths
  each-there : (row : Row) → Contains rows row → (paths : List Cited) × IsFull problem (entry_of row paths)
  each-there row (k, inside, is) =
      let found : slice_get rows k ≡ Some row = slice_get-get_or rows k row inside ∙ ap (λ (r : Row). Some r) is in
      all-there problem whole lists.listed.items row (answer row (k, inside, is)) _ (are.each k row found)

  -- a proof that was cut in this entry
  pub cut-off : (entries : List Entry) (n : ℕ) (row : Row) → map (λ (entry : Entry). entry.row) entries ≡ take n rows → AllByRecursion (IsFull problem) entries
      → rows ≡ take n rows ++ row ∷ drop (n + 1) rows → (before between after : Option (List ℕ)) (held : List ℕ) → IsHeld before between held (flat_map (text_of_entry names) entries)
      → CutsEntry problem names row between after held → GainsPart problem names rows before after
  cut-off entries n row same full parts before between after held first (paths, own, cut) =
      let (others, rest, all) = entries-of problem (drop (n + 1) rows) (λ other held. each-there other (contains-drop rows (n + 1) other held)) in
      let entry : Entry = entry_of row paths in
      let upto : IsCut before after (flat_map (text_of_entry names) entries ++ text_of_entry names entry) =
      cut_then before between after held (flat_map (text_of_entry names) entries) (text_of_entry names entry) _ first cut refl in
      let bytes : List ℕ = flat_map (text_of_entry names) (entries ++ entry ∷ others) in
      gains-part problem names rows before after bytes
      (record {
        entries = entries ++ entry ∷ others;
        same = map-append (λ (e : Entry). e.row) entries (entry ∷ others) ∙ ap (λ l. l ++ row ∷ map (λ (e : Entry). e.row) others) same ∙ ap (λ l. take n rows ++ row ∷ l) rest ∙ sym parts;
        full = of_both (IsFull problem) entries (entry ∷ others) full (own, all);
        text = refl;
      })
      (cut_more before after _ (flat_map (text_of_entry names) others) bytes upto
      (append_assoc (flat_map (text_of_entry names) entries) (text_of_entry names entry) (flat_map (text_of_entry names) others)
      ∙ sym (flat_map-append (text_of_entry names) entries (entry ∷ others))))

-- one entry more
pub entry-more : (names : List (List ℕ)) (entries : List Entry) (entry : Entry) → flat_map (text_of_entry names) entries ++ text_of_entry names entry ≡ flat_map (text_of_entry names) (entries ++ entry ∷ [])
entry-more names entries entry =
    ap (λ l. flat_map (text_of_entry names) entries ++ l) (sym (append-nil (text_of_entry names entry))) ∙ sym (flat_map-append (text_of_entry names) entries (entry ∷ []))

-- a row at a place cuts the rows
pub rows-cut : (rows : List Row) (n : ℕ) (row : Row) → slice_get rows n ≡ Some row → (rows ≡ take n rows ++ row ∷ drop (n + 1) rows) × (take (n + 1) rows ≡ take n rows ++ row ∷ [])
rows-cut rows n row found =
    let inside = slice_get_within rows n row found in (
      sym (take-append-drop n rows) ∙ ap (λ l. take n rows ++ l) (drop-got rows n row found),
      take_more rows n row inside ∙ ap (λ (r : Row). take n rows ++ r ∷ []) (get_or_from_slice_get rows n row row found),
    )
