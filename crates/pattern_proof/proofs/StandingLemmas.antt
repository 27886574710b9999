-- What is remembered decides each line.
use Rattle.std.proofs.Common.{◌≡◌, ◌↔◌, ℕ, ◌+◌, ◌<◌, ◌≤◌, inl, inr, true≢false, List, [], ◌∷◌, ◌++◌, length, Option, Some, None, IfSome, refl, sym, ap, ◌∙◌, subst, arith}
use Rattle.std.specs.List.{AllByRecursion}
use Rattle.std.proofs.lemmas.List.{length-append}
use Rattle.mine_model.specs.declared.row.Row.{Row}
use Rattle.mine_model.specs.Answer.{ComesBefore}
use Rattle.mine_model.specs.Database.{sequence_at}
use Rattle.mine_model.specs.Names.{named_row}
use Rattle.mine_model.specs.Text.{IsSoundLine}
use Rattle.mine_model.proofs.ListLemmas.{back_of_both, of_both}
use Rattle.mining_job.specs.Problems.{Problem}
use Rattle.text_ports.specs.Lines.{WasGiven}
use Rattle.pattern_proof.specs.declared.fault.ProofFault.{ProofFault}
use Rattle.pattern_proof.specs.ProofLines.{Cited, Entry, AreFileNames}
use Rattle.pattern_proof.specs.Proofs.{IsGoodPath, IsEnough, IsGood, weight_of}
use Rattle.pattern_proof.specs.Judging.{IsBehind, IsNextPath, IsGoodLine, IsTextRefusal, IsLineRefusal, AreRefused}
use Rattle.pattern_proof.specs.Checking.{OfLast, Takes, TakesAll}
use Rattle.pattern_proof.specs.Standing.{OpenRow, Standing, at_start, IsClosed, MayBeCited, StepsTo, RefusesAt, RefusesEnd, IsCurrent, Remembers}
use Rattle.pattern_proof.proofs.TextLemmas.{path-line, row-line}
use Rattle.pattern_proof.proofs.SayLemmas.{snoc-unique, no-snoc}
use Rattle.pattern_proof.proofs.StepLemmas.{taken-good}
use Rattle.pattern_proof.proofs.JudgingLemmas.{row-unproved, line-bad, line-refused, end-refused, taken-not-refused}

module _ (problem : Problem) (names : List (List ℕ)) where
  pub remembers-start : Remembers problem 0 [] at_start
  remembers-start = record { rows = refl; current = refl }

  -- the row that is open is closed exactly where the last entry is enough
  closed-enough : (count : ℕ) (entries : List Entry) (current : Option OpenRow) → IsCurrent problem count entries current → IfSome current IsClosed → OfLast (IsEnough problem) entries
  closed-enough count entries None is closed earlier last cut = absurd (no-snoc earlier last (sym is ∙ cut))
  closed-enough count entries (Some above) (front, end, split, row, weight, line, least) closed earlier last cut =
      let same = (snoc-unique front earlier end last (sym split ∙ cut)).1 in
      subst (IsEnough problem) same (let support : above.row.support ≡ end.row.support = ap (λ (r : Row). r.support) row in omega (arith, support, weight, closed))

  open-short : (above : OpenRow) (last : Entry) → above.row ≡ last.row → above.weight ≡ weight_of problem last.paths → (IsClosed above → ⊥) → IsEnough problem last → ⊥
  open-short above last row weight unclosed enough =
      unclosed (let support : above.row.support ≡ last.row.support = ap (λ (r : Row). r.support) row in omega (arith, support, weight, enough))

  -- the row that may follow comes behind the last entry
  follow-behind : (count : ℕ) (entries : List Entry) (current : Option OpenRow) (row : Row) → IsCurrent problem count entries current
      → IfSome current (λ above. ComesBefore (named_row names above.row) (named_row names row)) ↔ IsBehind names entries row
  follow-behind count entries None row is = ((λ may earlier last cut. absurd (no-snoc earlier last (sym is ∙ cut))), (λ behind. tt))
  follow-behind count entries (Some above) row (front, end, split, same_row, weight, line, least) = (
    (λ may earlier last cut. (let same = (snoc-unique front earlier end last (sym split ∙ cut)).1 in
        subst (λ (r : Row). ComesBefore (named_row names r) (named_row names row)) (same_row ∙ ap (λ (e : Entry). e.row) same) may)),
    (λ behind. subst (λ (r : Row). ComesBefore (named_row names r) (named_row names row)) (sym same_row) (behind front end split)),
  )

  weight-more : (paths : List Cited) (path : Cited) → weight_of problem (paths ++ path ∷ []) ≡ weight_of problem paths + (sequence_at problem.sequences path.place).weight
  weight-more [] path = omega arith
  weight-more (p ∷ paths) path = let rest = weight-more paths path in omega (arith, rest)

  least-more : (least : ℕ) (paths : List Cited) (path : Cited) → ((place : ℕ) → (least ≤ place) ↔ AllByRecursion (λ (other : Cited). other.place < place) paths) → least ≤ path.place
      → (place : ℕ) → (path.place + 1 ≤ place) ↔ AllByRecursion (λ (other : Cited). other.place < place) (paths ++ path ∷ [])
  least-more least paths path is later place = (
    (λ more. of_both (λ (other : Cited). other.place < place) paths (path ∷ [])
        ((is place).0 (omega (arith, later, more))) (omega (arith, more), tt)),
    (λ all. (let end : AllByRecursion (λ (other : Cited). other.place < place) (path ∷ []) = back_of_both (λ (other : Cited). other.place < place) paths (path ∷ []) all in
        let less = end.0 in omega (arith, less))),
  )

  -- a line that is taken is taken by the definition
  pub steps-take : (count : ℕ) (entries : List Entry) (before : Standing) (text : List ℕ) (after : Standing) → Remembers problem count entries before
      → StepsTo problem names before (count + 1) text after
      → (more : List Entry) × Takes problem names entries text more × Remembers problem (count + 1) more after
  steps-take count entries before text after remembers (sound, inl (row, says, closed, follow, is)) = (
    entries ++ (record { row = row; paths = [] }) ∷ [],
    inl (record {
      row = row;
      says = says;
      range = follow.range;
      behind = (follow-behind count entries before.current row remembers.current).0 follow.behind;
      closed = closed-enough count entries before.current remembers.current closed;
      added = refl;
    }),
    subst (Remembers problem (count + 1) (entries ++ (record { row = row; paths = [] }) ∷ [])) (sym is) (record {
      rows = (let long = length-append entries ((let fresh : Entry = record { row = row; paths = [] } in fresh) ∷ []) in let all = remembers.rows in omega (arith, long, all));
      current = (entries, record { row = row; paths = [] }, refl, refl, refl, omega arith, (λ place. ((λ less. tt), (λ all. omega arith))));
    }),
  )
  steps-take count entries before text after remembers (sound, inr (above, path, current, says, may, is)) =
      let (front, end, split, row, weight, line, least) = subst (IsCurrent problem count entries) current remembers.current in (
        front ++ (record { row = end.row; paths = end.paths ++ path ∷ [] }) ∷ [],
        inr (record {
          earlier = front;
          last = end;
          path = path;
          cut = split;
          says = says;
          next = record { good = subst (λ (r : Row). IsGoodPath problem r path) row may.good; later = (least path.place).0 may.later };
          added = refl;
        }),
        subst (Remembers problem (count + 1) (front ++ (record { row = end.row; paths = end.paths ++ path ∷ [] }) ∷ [])) (sym is) (record {
          rows = (let long = length-append front ((let longer : Entry = record { row = end.row; paths = end.paths ++ path ∷ [] } in longer) ∷ []) in
              let short = length-append front (end ∷ []) in let cut = ap length split in let all = remembers.rows in omega (arith, long, short, cut, all));
          current = (
            front,
            record { row = end.row; paths = end.paths ++ path ∷ [] },
            refl,
            row,
            (let sum = weight-more end.paths path in omega (arith, sum, weight)),
            (let long = length-append end.paths (path ∷ []) in omega (arith, long, line)),
            least-more above.least end.paths path least may.later,
          );
        }),
      )

  -- a path that is good by the definition may be cited
  next-cited : (count : ℕ) (entries : List Entry) (before : Standing) (earlier : List Entry) (last : Entry) (path : Cited) → Remembers problem count entries before → entries ≡ earlier ++ last ∷ []
      → IsNextPath problem last path → (above : OpenRow) × (before.current ≡ Some above) × MayBeCited problem above path
  next-cited count entries before earlier last path remembers cut next = by before.current refl
    where
      by : (current : Option OpenRow) → before.current ≡ current → (above : OpenRow) × (before.current ≡ Some above) × MayBeCited problem above path
      by None is = absurd (no-snoc earlier last (sym (subst (IsCurrent problem count entries) is remembers.current) ∙ cut))
      by (Some above) is =
          let (front, end, split, row, weight, line, least) = subst (IsCurrent problem count entries) is remembers.current in
          let same : end ≡ last = (snoc-unique front earlier end last (sym split ∙ cut)).1 in (
            above,
            is,
            record {
              good = subst (λ (r : Row). IsGoodPath problem r path) (sym (row ∙ ap (λ (e : Entry). e.row) same)) next.good;
              later = (least path.place).1 (subst (λ (e : Entry). AllByRecursion (λ other. other.place < path.place) e.paths) (sym same) next.later);
            },
          )

  module _ (known : AreFileNames names) where
    -- a line that is refused is refused by the definition
    pub refuses-line : (lines : List (List ℕ)) (entries : List Entry) (before : Standing) (text : List ℕ) (fault : ProofFault) → TakesAll problem names [] lines entries
        → Remembers problem (length lines) entries before → IsSoundLine text → RefusesAt problem names before (length lines + 1) text fault → IsLineRefusal problem names lines text fault
    refuses-line lines entries before text fault takes remembers sound (inl (above, is_row, current, unclosed, is)) =
        let (front, end, split, row, weight, line, least) = subst (IsCurrent problem (length lines) entries) current remembers.current in
        subst (IsLineRefusal problem names lines text) (sym is)
        (row-unproved problem names known lines front end text above.line (subst (TakesAll problem names [] lines) split takes) sound is_row (open-short above end row weight unclosed) line)
    refuses-line lines entries before text fault takes remembers sound (inr (inl (is_row, closed, none_fits, is))) =
        subst (IsLineRefusal problem names lines text) (sym is)
        (line-bad problem names known lines entries text takes sound (λ row. closed-enough (length lines) entries before.current remembers.current closed) bad)
      where
        bad : IsGoodLine problem names entries text → ⊥
        bad (inl (row, says, range, behind)) =
            none_fits row says (record { range = range; behind = (follow-behind (length lines) entries before.current row remembers.current).1 behind })
        bad (inr (earlier, last, path, cut, says, next)) = true≢false (sym (path-line text path says) ∙ is_row)
    refuses-line lines entries before text fault takes remembers sound (inr (inr (is_path, none_fits, is))) =
        subst (IsLineRefusal problem names lines text) (sym is)
        (line-bad problem names known lines entries text takes sound (λ row. absurd (true≢false (sym is_path ∙ row))) bad)
      where
        bad : IsGoodLine problem names entries text → ⊥
        bad (inl (row, says, range, behind)) = true≢false (sym is_path ∙ row-line names text row says)
        bad (inr (earlier, last, path, cut, says, next)) =
            let (above, current, may) = next-cited (length lines) entries before earlier last path remembers cut next in none_fits above path current says may

  -- The whole file

  steps-all : (count : ℕ) (entries : List Entry) (before : Standing) (lines : List (List ℕ)) (after : Standing) → Remembers problem count entries before
      → WasGiven (StepsTo problem names) (count + 1) lines before after
      → (more : List Entry) × TakesAll problem names entries lines more × Remembers problem (count + length lines) more after × AllByRecursion IsSoundLine lines
  steps-all count entries before [] after remembers given =
      (entries, refl, subst (λ n. Remembers problem n entries after) (omega arith) (subst (Remembers problem count entries) given remembers), tt)
  steps-all count entries before (text ∷ lines) after remembers (between, step, given) =
      let (next, takes, now) = steps-take count entries before text between remembers step in
      let (more, all, then, sound) = steps-all (count + 1) next between lines after now given in
      let sum : count + 1 + length lines ≡ count + length (text ∷ lines) = omega arith in
      (more, (next, takes, all), subst (λ n. Remembers problem n more after) sum then, (step.0, sound))

  -- where all lines are taken and the last row is closed, the file is a good proof with so many rows
  pub steps-good : (lines : List (List ℕ)) (after : Standing) → WasGiven (StepsTo problem names) 1 lines at_start after → IfSome after.current IsClosed → IsGood problem names lines after.rows
  steps-good lines after given closed =
      let (entries, takes, remembers, sound) = steps-all 0 [] at_start lines after remembers-start given in
      subst (IsGood problem names lines) (sym remembers.rows)
      (taken-good problem names lines entries takes (closed-enough (0 + length lines) entries after.current remembers.current closed))

  module _ (known : AreFileNames names) where
    -- and nothing is refused
    pub steps-accepted : (lines : List (List ℕ)) (after : Standing) → WasGiven (StepsTo problem names) 1 lines at_start after → IfSome after.current IsClosed
        → (fault : ProofFault) → AreRefused problem names lines fault → ⊥
    steps-accepted lines after given closed fault refused =
        let (entries, takes, remembers, sound) = steps-all 0 [] at_start lines after remembers-start given in
        taken-not-refused problem names known lines entries sound takes (closed-enough (0 + length lines) entries after.current remembers.current closed) fault refused

    -- a line that is refused behind lines that are taken is the first refusal
    pub steps-refused : (lines later : List (List ℕ)) (text : List ℕ) (before : Standing) (fault : ProofFault) → WasGiven (StepsTo problem names) 1 lines at_start before → IsSoundLine text
        → RefusesAt problem names before (length lines + 1) text fault → AreRefused problem names (lines ++ text ∷ later) fault
    steps-refused lines later text before fault given good refuses =
        let (entries, takes, remembers, sound) = steps-all 0 [] at_start lines before remembers-start given in
        let here : Remembers problem (length lines) entries before = subst (λ n. Remembers problem n entries before) (omega arith) remembers in
        line-refused problem names known lines text later entries fault sound takes (refuses-line known lines entries before text fault takes here good refuses)

    -- the last row that is not closed is the first refusal
    pub steps-end-refused : (lines : List (List ℕ)) (after : Standing) (fault : ProofFault) → WasGiven (StepsTo problem names) 1 lines at_start after → RefusesEnd after fault → AreRefused problem names lines fault
    steps-end-refused lines after fault given (above, current, unclosed, is) =
        let (entries, takes, remembers, sound) = steps-all 0 [] at_start lines after remembers-start given in
        let (front, end, split, row, weight, line, least) = subst (IsCurrent problem (0 + length lines) entries) current remembers.current in
        subst (AreRefused problem names lines) (sym is)
        (end-refused problem names known lines front end above.line sound (subst (TakesAll problem names [] lines) split takes) (open-short above end row weight unclosed)
        (let count = line in omega (arith, count)))

    -- a line whose text is at fault behind lines that are taken is the first refusal
    pub steps-stopped : (lines later : List (List ℕ)) (text : List ℕ) (before : Standing) (fault : ProofFault) → WasGiven (StepsTo problem names) 1 lines at_start before
        → IsTextRefusal (length lines + 1) text fault → AreRefused problem names (lines ++ text ∷ later) fault
    steps-stopped lines later text before fault given textual =
        let (entries, takes, remembers, sound) = steps-all 0 [] at_start lines before remembers-start given in
        line-refused problem names known lines text later entries fault sound takes (inl textual)
