-- Where each line can be decided, lines of which none is refused are a good proof.
use Rattle.std.proofs.Common.{◌≡◌, ℕ, ◌+◌, ◌-◌, ◌<◌, ◌≤◌, inl, inr, ◌⊎◌, Bool, true, false, true≢false, List, [], ◌∷◌, ◌++◌, length, refl, sym, ◌∙◌, subst, arith, append_assoc}
use Rattle.std.specs.List.{AllByRecursion}
use Rattle.std.proofs.lemmas.Bool.{cases_order}
use Rattle.std.proofs.lemmas.List.{append-nil, length-append}
use Rattle.mine_model.specs.Text.{IsSoundLine}
use Rattle.mine_model.proofs.ListLemmas.{last-cases, of_both}
use Rattle.mining_job.specs.Problems.{Problem}
use Rattle.pattern_proof.specs.declared.fault.ProofFault.{ProofFault}
use Rattle.pattern_proof.specs.declared.fault.ProofFault.TheVariants.{BadProof}
use Rattle.pattern_proof.specs.ProofLines.{Entry, is_path_line, AreFileNames}
use Rattle.pattern_proof.specs.Proofs.{IsEnough, IsGood, weight_of}
use Rattle.pattern_proof.specs.Judging.{IsGoodLine, AreRefused}
use Rattle.pattern_proof.specs.Checking.{OfLast, Takes, TakesAll}
use Rattle.pattern_proof.proofs.SayLemmas.{snoc-unique, no-snoc}
use Rattle.pattern_proof.proofs.TextLemmas.{row-line}
use Rattle.pattern_proof.proofs.StepLemmas.{taken-good}
use Rattle.pattern_proof.proofs.JudgingLemmas.{row-unproved, line-bad, line-refused, end-refused}

module _ (problem : Problem) (names : List (List ℕ)) where
  -- the last entry has no more paths than there are lines
  abbrev HasRoom : ℕ → List Entry → Type 0
  HasRoom count entries = OfLast (λ last. length last.paths ≤ count) entries

  room-more : (count : ℕ) (before : List Entry) (text : List ℕ) (after : List Entry) → HasRoom count before → Takes problem names before text after → HasRoom (count + 1) after
  room-more count before text after room (inl takes) earlier last cut =
      let same = (snoc-unique before earlier _ last (sym takes.added ∙ cut)).1 in
      subst (λ (e : Entry). length e.paths ≤ count + 1) same (omega arith)
  room-more count before text after room (inr takes) earlier last cut =
      let same = (snoc-unique takes.earlier earlier _ last (sym takes.added ∙ cut)).1 in
      let few = room takes.earlier takes.last takes.cut in
      let long = length-append takes.last.paths (takes.path ∷ []) in
      subst (λ (e : Entry). length e.paths ≤ count + 1) same (omega (arith, few, long))

  takes-snoc : (before : List Entry) (lines : List (List ℕ)) (text : List ℕ) (between after : List Entry) → TakesAll problem names before lines between → Takes problem names between text after
      → TakesAll problem names before (lines ++ text ∷ []) after
  takes-snoc before [] text between after all takes = (after, subst (λ b. Takes problem names b text after) all takes, refl)
  takes-snoc before (line ∷ lines) text between after (next, first, all) takes = (next, first, takes-snoc next lines text between after all takes)

  -- the last entry is enough, or it is not
  last-decided : (entries : List Entry) → OfLast (IsEnough problem) entries
      ⊎ ((earlier : List Entry) × (last : Entry) × (entries ≡ earlier ++ last ∷ []) × (IsEnough problem last → ⊥))
  last-decided entries = elim (last-cases entries) [
    | inl empty ↦ inl (λ earlier last cut. absurd (no-snoc earlier last (sym empty ∙ cut)))
    | inr cut ↦ by cut (cases_order (weight_of problem cut.1.paths) cut.1.row.support)
  ]
    where
      by : (cut : (front : List Entry) × (end : Entry) × (entries ≡ front ++ end ∷ [])) → ((weight_of problem cut.1.paths ≡ cut.1.row.support) ⊎ ((weight_of problem cut.1.paths < cut.1.row.support) ⊎ (cut.1.row.support < weight_of problem cut.1.paths)))
          → OfLast (IsEnough problem) entries ⊎ ((earlier : List Entry) × (last : Entry) × (entries ≡ earlier ++ last ∷ []) × (IsEnough problem last → ⊥))
      by (front, end, is) (inl same) = inl (λ earlier last split. (let one = (snoc-unique front earlier end last (sym is ∙ split)).1 in subst (IsEnough problem) one (omega (arith, same))))
      by (front, end, is) (inr (inl short)) = inr (front, end, is, (λ enough. omega (arith, short, enough)))
      by (front, end, is) (inr (inr long)) = inl (λ earlier last split. (let one = (snoc-unique front earlier end last (sym is ∙ split)).1 in subst (IsEnough problem) one (omega (arith, long))))

  module _ (known : AreFileNames names) (decide : (entries : List Entry) (text : List ℕ) → IsGoodLine problem names entries text ⊎ (IsGoodLine problem names entries text → ⊥)) where
    number-of : (count size : ℕ) → size ≤ count → count - size + size ≡ count
    number-of count size few = omega (arith, few)

    step : (before : List (List ℕ)) (entries : List Entry) (text : List ℕ) (later : List (List ℕ)) → TakesAll problem names [] before entries → AllByRecursion IsSoundLine before → IsSoundLine text
        → HasRoom (length before) entries → ((fault : ProofFault) → AreRefused problem names (before ++ text ∷ later) fault → ⊥)
        → (after : List Entry) × Takes problem names entries text after
    step before entries text later takes sound good room none = elim (last-decided entries) [
      | inl closed ↦ elim (decide entries text) [
        | inl fits ↦ fit closed fits
        | inr unfit ↦ absurd (none _ (line-refused problem names known before text later entries _ sound takes (line-bad problem names known before entries text takes good (λ row. closed) unfit)))
      ]
      | inr short ↦ (let (earlier, last, is, unclosed) = short in by earlier last is unclosed (is_path_line text) refl)
    ]
      where
        fit : OfLast (IsEnough problem) entries → IsGoodLine problem names entries text → (after : List Entry) × Takes problem names entries text after
        fit closed (inl (row, says, range, behind)) = (_, inl (record { row = row; says = says; range = range; behind = behind; closed = closed; added = refl }))
        fit closed (inr (earlier, last, path, cut, says, next)) = (_, inr (record { earlier = earlier; last = last; path = path; cut = cut; says = says; next = next; added = refl }))

        by : (earlier : List Entry) (last : Entry) → entries ≡ earlier ++ last ∷ [] → (IsEnough problem last → ⊥) → (b : Bool) → is_path_line text ≡ b → (after : List Entry) × Takes problem names entries text after
        by earlier last is unclosed false row =
            absurd (none _ (line-refused problem names known before text later entries _ sound takes
            (row-unproved problem names known before earlier last text (length before - length last.paths) (subst (TakesAll problem names [] before) is takes) good row unclosed
            (number-of (length before) (length last.paths) (room earlier last is)))))
        by earlier last is unclosed true path = elim (decide entries text) [
          | inl fits ↦ cited fits
          | inr unfit ↦ absurd (none _ (line-refused problem names known before text later entries _ sound takes
              (line-bad problem names known before entries text takes good (λ row. absurd (true≢false (sym path ∙ row))) unfit)))
        ]
          where
            cited : IsGoodLine problem names entries text → (after : List Entry) × Takes problem names entries text after
            cited (inl (row, says, range, behind)) = absurd (true≢false (sym path ∙ row-line names text row says))
            cited (inr (front, end, cite, cut, says, next)) = (_, inr (record { earlier = front; last = end; path = cite; cut = cut; says = says; next = next; added = refl }))

    judge : (before : List (List ℕ)) (entries : List Entry) (rest : List (List ℕ)) → TakesAll problem names [] before entries → AllByRecursion IsSoundLine before → AllByRecursion IsSoundLine rest
        → HasRoom (length before) entries → ((fault : ProofFault) → AreRefused problem names (before ++ rest) fault → ⊥) → (rows : ℕ) × IsGood problem names (before ++ rest) rows
    judge before entries [] takes sound good room none = elim (last-decided entries) [
      | inl closed ↦ (length entries, subst (λ l. IsGood problem names l (length entries)) (sym (append-nil before)) (taken-good problem names before entries takes closed))
      | inr short ↦ (let (earlier, last, is, unclosed) = short in
          absurd (none (BadProof (length before - length last.paths)) (subst (λ l. AreRefused problem names l (BadProof (length before - length last.paths))) (sym (append-nil before))
          (end-refused problem names known before earlier last (length before - length last.paths) sound (subst (TakesAll problem names [] before) is takes) unclosed
          (number-of (length before) (length last.paths) (room earlier last is))))))
    ]
    judge before entries (text ∷ rest) takes sound good room none =
        let (after, taken) = step before entries text rest takes sound good.0 room none in
        let cut = append_assoc before (text ∷ []) rest in
        let long = length-append before (text ∷ []) in
        let (rows, is) = judge (before ++ text ∷ []) after rest (takes-snoc [] before text entries after takes taken) (of_both IsSoundLine before (text ∷ []) sound (good.0, tt)) good.1
        (subst (λ n. HasRoom n after) (omega (arith, long)) (room-more (length before) entries text after room taken))
        (λ fault refused. none fault (subst (λ l. AreRefused problem names l fault) cut refused)) in
        (rows, subst (λ l. IsGood problem names l rows) cut is)

    -- lines of which none is refused are a good proof
    pub unrefused-good : (lines : List (List ℕ)) → AllByRecursion IsSoundLine lines → ((fault : ProofFault) → AreRefused problem names lines fault → ⊥) → (rows : ℕ) × IsGood problem names lines rows
    unrefused-good lines sound none = judge [] [] lines refl tt sound (λ earlier last cut. absurd (no-snoc earlier last cut)) none
