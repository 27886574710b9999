-- A good proof whose lines are sound is not refused, whatever the data.
use Rattle.std.proofs.Common.{◌≡◌, ◌≤◌, ◌∙◌, inl, inr, ℕ, ◌+◌, false, true≢false, List, [], ◌∷◌, ◌++◌, map, length, refl, sym, ap, subst, arith}
use Rattle.std.specs.List.{AllByRecursion}
use Rattle.std.proofs.lemmas.List.{append_assoc, append-nil, map-append}
use Rattle.mine_model.specs.declared.fault.Fault.{Fault}
use Rattle.mine_model.specs.declared.fault.Which.TheVariants.{Proof}
use Rattle.mine_model.specs.Answer.{Data, NamedRow, ComesBefore, Rises}
use Rattle.mine_model.specs.First.{FirstAmong}
use Rattle.mine_model.specs.Limits.{most_file_bytes}
use Rattle.mine_model.specs.Text.{lines_of, IsSoundLine}
use Rattle.mine_model.proofs.ListLemmas.{front_of_both, back_of_both}
use Rattle.mine_model.proofs.TextLemmas.{no_text_fault}
use Rattle.mine_model.specs.Names.{IsFileName}
use Rattle.pattern_proof.specs.ProofLines.{Cited, is_path_line}
use Rattle.pattern_proof.proofs.RiseLemmas.{places-front, places-before}
use Rattle.pattern_proof.proofs.SayLemmas.{snoc-unique, say-unique}
use Rattle.pattern_proof.proofs.TextLemmas.{path-line}
use Rattle.proof_names.specs.NamedProofs.{ProofRow, AddsLine, AddLines, SayRows, Shows, IsShown, IsProvedRow, IsGoodProof}
use Rattle.proof_names.specs.NamedRefusals.{IsGoodBehind, IsProofLineRefusal, IsProofFileRefusal}
use Rattle.proof_names.proofs.KnownLemmas.{distinct-names}
use Rattle.proof_names.proofs.NamedSayLemmas.{named_entry, say-back}

-- lines say one list of rows
rows-one : (known : List (List ℕ)) → AllByRecursion IsFileName known → (lines : List (List ℕ)) (rows others : List ProofRow)
    → SayRows known lines rows → SayRows known lines others → rows ≡ others
rows-one known files lines rows others say also =
    let (names, sound, held) = distinct-names known files in
    let (own, same, own_say) = say-back names known held [] lines rows say in
    let (other, as_well, other_say) = say-back names known held [] lines others also in
    sym same ∙ ap (map (named_entry names)) (say-unique names sound [] lines own other own_say other_say) ∙ as_well

abbrev with_paths : NamedRow → List Cited → ProofRow
with_paths row paths = record { row = row; paths = paths }

-- of the last row come more paths, and behind it more rows
abbrev Extends : List ProofRow → List ProofRow → Type 0
Extends before rows = (earlier : List ProofRow) (last : ProofRow) → before ≡ earlier ++ last ∷ []
    → (more : List Cited) × (later : List ProofRow) × (rows ≡ earlier ++ with_paths last.row (last.paths ++ more) ∷ later)

module _ (known : List (List ℕ)) where
  extends : (before : List ProofRow) (lines : List (List ℕ)) (rows : List ProofRow) → AddLines known before lines rows → Extends before rows
  extends before [] rows same earlier last cut =
      ([], [], same ∙ cut ∙ ap (λ l. earlier ++ with_paths last.row l ∷ []) (sym (append-nil last.paths)))
  extends before (text ∷ lines) rows (between, inl (row, says, is), say) earlier last cut =
      let (more, later, same) = extends between lines rows say before (with_paths row []) is in (
        [],
        with_paths row more ∷ later,
        same ∙ ap (λ l. l ++ with_paths row more ∷ later) cut ∙ append_assoc earlier (last ∷ []) (with_paths row more ∷ later)
            ∙ ap (λ l. earlier ++ with_paths last.row l ∷ with_paths row more ∷ later) (sym (append-nil last.paths)),
      )
  extends before (text ∷ lines) rows (between, inr (front, end, path, split, says, is), say) earlier last cut =
      let both = snoc-unique front earlier end last (sym split ∙ cut) in
      let here : between ≡ earlier ++ with_paths last.row (last.paths ++ path ∷ []) ∷ [] =
      is ∙ (λ i. both.0 i ++ with_paths (both.1 i).row ((both.1 i).paths ++ path ∷ []) ∷ []) in
      let (more, later, same) = extends between lines rows say earlier (with_paths last.row (last.paths ++ path ∷ [])) here in
      (path ∷ more, later, same ∙ ap (λ l. earlier ++ with_paths last.row l ∷ later) (append_assoc last.paths (path ∷ []) more))

  adds-more : (before : List ProofRow) (lines : List (List ℕ)) (between : List ProofRow) (text : List ℕ) (after : List ProofRow)
      → AddLines known before lines between → AddsLine known between text after → AddLines known before (lines ++ text ∷ []) after
  adds-more before [] between text after same adds = (after, subst (λ b. AddsLine known b text after) same adds, refl)
  adds-more before (line ∷ lines) between text after (next, one, rest) adds = (next, one, adds-more next lines between text after rest adds)

rises-back : (xs ys : List NamedRow) → Rises (xs ++ ys) → Rises ys
rises-back [] ys rises = rises
rises-back (x ∷ xs) ys rises = rises-back xs ys rises.1

module _ (d : Data (List ℕ)) (known : List (List ℕ)) (files : AllByRecursion IsFileName known) (lines : List (List ℕ)) (count : ℕ)
    (good : IsGoodProof d known lines count) where
  proved-at : (earlier : List ProofRow) (row : ProofRow) (later : List ProofRow) → good.rows ≡ earlier ++ row ∷ later → IsProvedRow d row
  proved-at earlier row later cut = (back_of_both (IsProvedRow d) earlier (row ∷ later) (subst (AllByRecursion (IsProvedRow d)) cut good.proved)).0

  next-at : (earlier : List ProofRow) (one other : ProofRow) (later : List ProofRow) → good.rows ≡ earlier ++ one ∷ other ∷ later → ComesBefore one.row other.row
  next-at earlier one other later cut =
      let all : Rises (map (λ (r : ProofRow). r.row) (earlier ++ one ∷ other ∷ later)) = subst (λ l. Rises (map (λ (r : ProofRow). r.row) l)) cut good.ordered in
      let parts : Rises (map (λ (r : ProofRow). r.row) earlier ++ map (λ (r : ProofRow). r.row) (one ∷ other ∷ later)) =
      subst Rises (map-append (λ (r : ProofRow). r.row) earlier (one ∷ other ∷ later)) all in
      (rises-back (map (λ (r : ProofRow). r.row) earlier) (map (λ (r : ProofRow). r.row) (one ∷ other ∷ later)) parts).0.0

  -- each line is good behind the lines before it, and a row line stands behind a row that is shown
  good-line : (before : List ProofRow) (text : List ℕ) (between : List ProofRow) (rest : List (List ℕ)) → AddsLine known before text between → AddLines known between rest good.rows
      → IsGoodBehind d known before text
      × (is_path_line text ≡ false → (earlier : List ProofRow) (last : ProofRow) → before ≡ earlier ++ last ∷ [] → IsShown d last)
  good-line before text between rest (inl (row, says, is)) say =
      let (more, later, same) = extends known between rest good.rows say before (with_paths row []) is in
      let proved : IsProvedRow d (with_paths row more) = proved-at before (with_paths row more) later same in
      let behind : (earlier : List ProofRow) (last : ProofRow) → before ≡ earlier ++ last ∷ [] → good.rows ≡ earlier ++ last ∷ with_paths row more ∷ later =
      λ earlier last cut. same ∙ ap (λ l. l ++ with_paths row more ∷ later) cut ∙ append_assoc earlier (last ∷ []) (with_paths row more ∷ later) in (
        inl (row, says, proved.claim, (λ earlier last cut. next-at earlier last (with_paths row more) later (behind earlier last cut))),
        (λ line earlier last cut. (proved-at earlier last (with_paths row more ∷ later) (behind earlier last cut)).enough),
      )
  good-line before text between rest (inr (earlier, last, path, cut, says, is)) say =
      let (more, later, same) = extends known between rest good.rows say earlier (with_paths last.row (last.paths ++ path ∷ [])) is in
      let proved : IsProvedRow d (with_paths last.row ((last.paths ++ path ∷ []) ++ more)) = proved-at earlier (with_paths last.row ((last.paths ++ path ∷ []) ++ more)) later same in
      let each : AllByRecursion (Shows d last.row.pattern) (last.paths ++ path ∷ []) = front_of_both (Shows d last.row.pattern) (last.paths ++ path ∷ []) more proved.each in (
        inr (
          earlier,
          last,
          path,
          cut,
          says,
          (
            (back_of_both (Shows d last.row.pattern) last.paths (path ∷ []) each).0,
            places-before last.paths path (places-front (last.paths ++ path ∷ []) more proved.rise),
          ),
        ),
        (λ line. absurd (true≢false (sym (path-line text path says) ∙ line))),
      )

  line-free : (done : List (List ℕ)) (before : List ProofRow) (text : List ℕ) (between : List ProofRow) (rest : List (List ℕ)) → SayRows known done before
      → AddsLine known before text between → AddLines known between rest good.rows → IsSoundLine text
      → (fault : Fault) → IsProofLineRefusal d known done text fault → ⊥
  line-free done before text between rest say adds more sound fault (inl textual) = no_text_fault Proof (length done + 1) text fault sound textual
  line-free done before text between rest say adds more sound fault (inr (none, inl (number, line, (earlier, last, also, short, sum), is))) =
      short ((good-line before text between rest adds more).1 line earlier last (rows-one known files done before (earlier ++ last ∷ []) say also))
  line-free done before text between rest say adds more sound fault (inr (none, inr (closed, (rows, also, bad, is)))) =
      bad (subst (λ r. IsGoodBehind d known r text) (rows-one known files done before rows say also) (good-line before text between rest adds more).0)

  lines-free : (done : List (List ℕ)) (before : List ProofRow) (rest : List (List ℕ)) → SayRows known done before → AddLines known before rest good.rows
      → AllByRecursion IsSoundLine rest → (fault : Fault) → FirstAmong (IsProofLineRefusal d known) done rest fault → ⊥
  lines-free done before [] say more sound fault none = none
  lines-free done before (text ∷ rest) say (between, adds, more) sound fault (inl here) = line-free done before text between rest say adds more sound.0 fault here
  lines-free done before (text ∷ rest) say (between, adds, more) sound fault (inr later) =
      lines-free (done ++ text ∷ []) between rest (adds-more known [] done before text between say adds) more sound.1 fault later.1

-- A GOOD PROOF of sound lines is not refused
pub good-unrefused : (d : Data (List ℕ)) (known : List (List ℕ)) → AllByRecursion IsFileName known → (bytes : List ℕ) (count : ℕ)
    → length bytes ≤ most_file_bytes → AllByRecursion IsSoundLine (lines_of bytes) → IsGoodProof d known (lines_of bytes) count
    → (fault : Fault) → IsProofFileRefusal d known bytes fault → ⊥
good-unrefused d known files bytes count few sound good fault (inl large) = let over = large.0 in omega (arith, over, few)
good-unrefused d known files bytes count few sound good fault (inr (a, inl among)) =
    lines-free d known files (lines_of bytes) count good [] [] (lines_of bytes) refl good.said sound fault among
good-unrefused d known files bytes count few sound good fault (inr (a, inr (b, (number, (earlier, last, also, short, sum), is)))) =
    short (proved-at d known files (lines_of bytes) count good earlier last [] (rows-one known files (lines_of bytes) good.rows (earlier ++ last ∷ []) good.said also)).enough
