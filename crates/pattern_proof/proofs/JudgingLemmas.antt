-- The first refusal of a proof file: there is at most one, and none exactly where the proof is good.
use Rattle.std.proofs.Common.{◌≡◌, ℕ, ◌+◌, inl, inr, false, true≢false, List, [], ◌∷◌, ◌++◌, length, refl, sym, ap, ◌∙◌, subst, arith, append_assoc}
use Rattle.std.specs.List.{AllByRecursion}
use Rattle.std.proofs.lemmas.List.{append-nil}
use Rattle.mine_model.specs.First.{FirstAmong}
use Rattle.mine_model.specs.Text.{lines_of, bad_byte, long_name, IsSoundLine}
use Rattle.mine_model.proofs.FirstLemmas.{AtMostOne, FirstOf-unique, FirstAmong-unique}
use Rattle.mining_job.specs.Problems.{Problem}
use Rattle.pattern_proof.specs.declared.fault.ProofFault.{ProofFault}
use Rattle.pattern_proof.specs.declared.fault.ProofFault.TheVariants.{BadByte, NameTooLong, BadProof}
use Rattle.pattern_proof.specs.ProofLines.{Entry, is_path_line, Say, AreFileNames}
use Rattle.pattern_proof.specs.Proofs.{IsEnough, IsGood}
use Rattle.pattern_proof.specs.Judging.{IsGoodLine, EndUnproved, IsTextRefusal, IsLineRefusal, AreRefused, IsProofRefusal}
use Rattle.pattern_proof.specs.Checking.{OfLast, Takes, TakesAll}
use Rattle.mine_model.proofs.TextFaultLemmas.{text-unique, bad≢long}
use Rattle.pattern_proof.proofs.TextLemmas.{path-line}
use Rattle.pattern_proof.proofs.SayLemmas.{snoc-unique, say-unique, say-append, say-one}
use Rattle.pattern_proof.proofs.StepLemmas.{takes-goes, takes-good, takes-say, good-taken}

text-refusal-unique : (number : ℕ) (text : List ℕ) → AtMostOne (IsTextRefusal number text)
text-refusal-unique number text f g (c, inl p) (d, inl q) = p.1 ∙ ap (BadByte number) (text-unique text bad_byte bad_byte c d p.0 q.0).1 ∙ sym q.1
text-refusal-unique number text f g (c, inl p) (d, inr q) = absurd (bad≢long (text-unique text bad_byte long_name c d p.0 q.0).0)
text-refusal-unique number text f g (c, inr p) (d, inl q) = absurd (bad≢long (text-unique text bad_byte long_name d c q.0 p.0).0)
text-refusal-unique number text f g (c, inr p) (d, inr q) = p.1 ∙ ap (NameTooLong number) (text-unique text long_name long_name c d p.0 q.0).1 ∙ sym q.1

pub sound-not-refused : (number : ℕ) (text : List ℕ) (fault : ProofFault) → IsSoundLine text → IsTextRefusal number text fault → ⊥
sound-not-refused number text fault sound (column, inl first) = sound bad_byte column first.0.0
sound-not-refused number text fault sound (column, inr first) = sound long_name column first.0.0

module _ (problem : Problem) (names : List (List ℕ)) (known : AreFileNames names) where
  -- At most one refusal

  unproved-unique : (lines : List (List ℕ)) (m n : ℕ) → EndUnproved problem names lines m → EndUnproved problem names lines n → m ≡ n
  unproved-unique lines m n (earlier, last, say, not, count) (front, end, also, nor, sum) =
      let same = (snoc-unique earlier front last end (say-unique names known [] lines (earlier ++ last ∷ []) (front ++ end ∷ []) say also)).1 in
      let e : length last.paths ≡ length end.paths = ap (λ (x : Entry). length x.paths) same in
      omega (arith, e, count, sum)

  end-unique : (lines : List (List ℕ)) → AtMostOne (λ fault. (number : ℕ) × EndUnproved problem names lines number × (fault ≡ BadProof number))
  end-unique lines f g (m, p, is) (n, q, also) = is ∙ ap BadProof (unproved-unique lines m n p q) ∙ sym also

  line-unique : (before : List (List ℕ)) (text : List ℕ) → AtMostOne (IsLineRefusal problem names before text)
  line-unique before text =
      FirstOf-unique _ _ (text-refusal-unique (length before + 1) text)
      (FirstOf-unique _ _
      (λ f g p q. p.3 ∙ ap BadProof (unproved-unique before p.0 q.0 p.2 q.2) ∙ sym q.3)
      (λ f g p q. p.3 ∙ sym q.3))

  pub AreRefused-unique : (lines : List (List ℕ)) → AtMostOne (AreRefused problem names lines)
  AreRefused-unique lines =
      FirstOf-unique _ _ (FirstAmong-unique (IsLineRefusal problem names) line-unique [] lines) (end-unique lines)

  pub IsProofRefusal-unique : (bytes : List ℕ) → AtMostOne (IsProofRefusal problem names bytes)
  IsProofRefusal-unique bytes = FirstOf-unique _ _ (λ f g p q. p.1 ∙ sym q.1) (AreRefused-unique (lines_of bytes))

  -- A line that is sound and taken is not refused

  accepted : (before : List (List ℕ)) (entries : List Entry) (text : List ℕ) (after : List Entry) → Say names before entries → IsSoundLine text → Takes problem names entries text after
      → (fault : ProofFault) → IsLineRefusal problem names before text fault → ⊥
  accepted before entries text after say sound takes fault (inl textual) = sound-not-refused (length before + 1) text fault sound textual
  accepted before entries text after say sound (inl takes) fault (inr (no_text, inl unproved)) =
      let (number, row, (earlier, last, also, short, count), is) = unproved in
      short (takes.closed earlier last (say-unique names known [] before entries (earlier ++ last ∷ []) say also))
  accepted before entries text after say sound (inr takes) fault (inr (no_text, inl unproved)) =
      true≢false (sym (path-line text takes.path takes.says) ∙ unproved.1)
  accepted before entries text after say sound takes fault (inr (no_text, inr (closed, bad))) =
      let (others, also, not, is) = bad in
      not (subst (λ l. IsGoodLine problem names l text) (say-unique names known [] before entries others say also) (takes-good problem names entries text after takes))

  accepted-all : (before : List (List ℕ)) (entries : List Entry) (lines : List (List ℕ)) (after : List Entry) → Say names before entries → AllByRecursion IsSoundLine lines
      → TakesAll problem names entries lines after → (fault : ProofFault) → FirstAmong (IsLineRefusal problem names) before lines fault → ⊥
  accepted-all before entries [] after say sound takes fault refused = refused
  accepted-all before entries (text ∷ lines) after say sound (between, takes, all) fault (inl here) = accepted before entries text between say sound.0 takes fault here
  accepted-all before entries (text ∷ lines) after say sound (between, takes, all) fault (inr later) =
      accepted-all (before ++ text ∷ []) between lines after
      (say-append names [] before (text ∷ []) entries between say (say-one names entries text between (takes-goes problem names entries text between takes)))
      sound.1 all fault later.1

  -- lines that are sound and taken, the last entry being enough, are not refused
  pub taken-not-refused : (lines : List (List ℕ)) (entries : List Entry) → AllByRecursion IsSoundLine lines → TakesAll problem names [] lines entries → OfLast (IsEnough problem) entries
      → (fault : ProofFault) → AreRefused problem names lines fault → ⊥
  taken-not-refused lines entries sound takes closed fault (inl refused) = accepted-all [] [] lines entries refl sound takes fault refused
  taken-not-refused lines entries sound takes closed fault (inr (none, (number, (earlier, last, also, short, count), is))) =
      short (closed earlier last (say-unique names known [] lines entries (earlier ++ last ∷ []) (takes-say problem names [] lines entries takes) also))

  -- a good proof of sound lines is not refused
  pub good-not-refused : (lines : List (List ℕ)) (rows : ℕ) → AllByRecursion IsSoundLine lines → IsGood problem names lines rows
      → (fault : ProofFault) → AreRefused problem names lines fault → ⊥
  good-not-refused lines rows sound good fault refused =
      let both = good-taken problem names lines rows good in taken-not-refused lines good.entries sound both.0 both.1 fault refused

  -- The first line that is refused

  first-behind : (before : List (List ℕ)) (entries : List Entry) (lines later : List (List ℕ)) (after : List Entry) → Say names before entries → AllByRecursion IsSoundLine lines
      → TakesAll problem names entries lines after → (fault : ProofFault) → FirstAmong (IsLineRefusal problem names) (before ++ lines) later fault
      → FirstAmong (IsLineRefusal problem names) before (lines ++ later) fault
  first-behind before entries [] later after say sound takes fault refused =
      subst (λ l. FirstAmong (IsLineRefusal problem names) l later fault) (append-nil before) refused
  first-behind before entries (text ∷ lines) later after say sound (between, takes, all) fault refused = inr (
    accepted before entries text between say sound.0 takes,
    first-behind (before ++ text ∷ []) between lines later after
        (say-append names [] before (text ∷ []) entries between say (say-one names entries text between (takes-goes problem names entries text between takes)))
        sound.1 all fault (subst (λ l. FirstAmong (IsLineRefusal problem names) l later fault) (sym (append_assoc before (text ∷ []) lines)) refused),
  )

  -- the first refusal is that of the line behind lines that are sound and taken
  pub line-refused : (lines : List (List ℕ)) (text : List ℕ) (later : List (List ℕ)) (entries : List Entry) (fault : ProofFault) → AllByRecursion IsSoundLine lines
      → TakesAll problem names [] lines entries → IsLineRefusal problem names lines text fault → AreRefused problem names (lines ++ text ∷ later) fault
  line-refused lines text later entries fault sound takes refused = inl (first-behind [] [] lines (text ∷ later) entries refl sound takes fault (inl refused))

  -- where all lines are taken, the last entry is refused if its paths weigh too little
  pub end-refused : (lines : List (List ℕ)) (earlier : List Entry) (last : Entry) (number : ℕ) → AllByRecursion IsSoundLine lines
      → TakesAll problem names [] lines (earlier ++ last ∷ []) → (IsEnough problem last → ⊥) → number + length last.paths ≡ length lines
      → AreRefused problem names lines (BadProof number)
  end-refused lines earlier last number sound takes short count = inr (
    accepted-all [] [] lines (earlier ++ last ∷ []) refl sound takes,
    (number, (earlier, last, takes-say problem names [] lines (earlier ++ last ∷ []) takes, short, count), refl),
  )

  -- A sound row line is refused for the row before it, or for what it says

  pub row-unproved : (lines : List (List ℕ)) (earlier : List Entry) (last : Entry) (text : List ℕ) (number : ℕ) → TakesAll problem names [] lines (earlier ++ last ∷ [])
      → IsSoundLine text → is_path_line text ≡ false → (IsEnough problem last → ⊥) → number + length last.paths ≡ length lines
      → IsLineRefusal problem names lines text (BadProof number)
  row-unproved lines earlier last text number takes sound row short count = inr (
    (λ other textual. sound-not-refused (length lines + 1) text other sound textual),
    inl (number, row, (earlier, last, takes-say problem names [] lines (earlier ++ last ∷ []) takes, short, count), refl),
  )

  pub line-bad : (lines : List (List ℕ)) (entries : List Entry) (text : List ℕ) → TakesAll problem names [] lines entries → IsSoundLine text
      → (is_path_line text ≡ false → OfLast (IsEnough problem) entries) → (IsGoodLine problem names entries text → ⊥)
      → IsLineRefusal problem names lines text (BadProof (length lines + 1))
  line-bad lines entries text takes sound closed bad = inr (
    (λ other textual. sound-not-refused (length lines + 1) text other sound textual),
    inr (
      (λ other unproved. (let (number, row, (earlier, last, also, short, count), is) = unproved in
          short (closed row earlier last (say-unique names known [] lines entries (earlier ++ last ∷ []) (takes-say problem names [] lines entries takes) also)))),
      (entries, takes-say problem names [] lines entries takes, bad, refl),
    ),
  )
