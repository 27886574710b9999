-- A refusal stays the same where names are listed otherwise.
use Rattle.std.proofs.Common.{inl, inr, ◌↔◌, ℕ, Bool, List, [], ◌∷◌, ◌++◌, Contains}
use Rattle.std.proofs.lemmas.List.Elements.{All-weaker}
use Rattle.mine_model.specs.declared.fault.Which.TheVariants.{Sequences}
use Rattle.mine_model.specs.Limits.{most_items}
use Rattle.mine_model.specs.Text.{lines_of}
use Rattle.mine_model.specs.Grammar.{Use}
use Rattle.mine_model.specs.First.{FirstOf, FirstAmong}
use Rattle.mine_model.specs.Refusal.{IsTooLarge, HasMoreNames, IsSequenceLineRefusal, IsSequencesRefusal, IsUnknown, sequences_of_lines, items_of}
use Rattle.command_line.specs.Words.{Source, read, embed, make, merge}
use Rattle.desq_run.specs.Said.{RefusesSequences}
use Rattle.desq_run.proofs.LinkLemmas.{Contains-both, Contains-front, Contains-back}

-- both hold the same elements
abbrev pub HoldSame : {X : Type 0} → List X → List X → Type 0
HoldSame {X} xs ys = (x : X) → Contains xs x ↔ Contains ys x

module _ {F : Type 0} where
  -- kinds that refuse alike
  abbrev pub RefuseAlike : (F → Type 0) → (F → Type 0) → Type 0
  RefuseAlike P Q = (fault : F) → P fault ↔ Q fault

  pub FirstOf-alike : (P P' Q Q' : F → Type 0) → RefuseAlike P P' → RefuseAlike Q Q' → RefuseAlike (FirstOf P Q) (FirstOf P' Q')
  FirstOf-alike P P' Q Q' same also fault = (
    (λ first. elim first [
      | inl here ↦ inl ((same fault).0 here)
      | inr later ↦ inr ((λ other there. later.0 other ((same other).1 there)), (also fault).0 later.1)
    ]),
    (λ first. elim first [
      | inl here ↦ inl ((same fault).1 here)
      | inr later ↦ inr ((λ other there. later.0 other ((same other).0 there)), (also fault).1 later.1)
    ]),
  )

  pub FirstAmong-alike : {X : Type 0} (R S : List X → X → F → Type 0) → ((before : List X) (x : X) → RefuseAlike (R before x) (S before x))
      → (before xs : List X) → RefuseAlike (FirstAmong R before xs) (FirstAmong S before xs)
  FirstAmong-alike R S same before [] fault = ((λ none. none), (λ none. none))
  FirstAmong-alike R S same before (x ∷ xs) fault =
      FirstOf-alike (R before x) (S before x) (FirstAmong R (before ++ x ∷ []) xs) (FirstAmong S (before ++ x ∷ []) xs)
      (same before x) (FirstAmong-alike R S same (before ++ x ∷ []) xs) fault

same-front : {X : Type 0} (xs ys zs : List X) → HoldSame xs ys → HoldSame (xs ++ zs) (ys ++ zs)
same-front xs ys zs same x = (
  (λ inside. elim (Contains-both xs zs x inside) [
    | inl front ↦ Contains-front ys zs x ((same x).0 front)
    | inr back ↦ Contains-back ys zs x back
  ]),
  (λ inside. elim (Contains-both ys zs x inside) [
    | inl front ↦ Contains-front xs zs x ((same x).1 front)
    | inr back ↦ Contains-back xs zs x back
  ]),
)

more-names : (n : ℕ) (xs ys : List (List ℕ)) → ((x : List ℕ) → Contains xs x → Contains ys x) → HasMoreNames n xs → HasMoreNames n ys
more-names n xs ys move (some, apart, all, more) = (some, apart, All-weaker (Contains xs) (Contains ys) move some all, more)

-- names that are known otherwise listed refuse the same sequences
file-alike : (weighted : Bool) (known others : List (List ℕ)) (bytes : List ℕ) → HoldSame known others
    → RefuseAlike (IsSequencesRefusal weighted known bytes) (IsSequencesRefusal weighted others bytes)
file-alike weighted known others bytes same =
    FirstOf-alike (IsTooLarge Sequences bytes) (IsTooLarge Sequences bytes)
    (FirstAmong (IsSequenceLineRefusal weighted known) [] (lines_of bytes)) (FirstAmong (IsSequenceLineRefusal weighted others) [] (lines_of bytes))
    (λ fault. ((λ p. p), (λ p. p)))
    (FirstAmong-alike (IsSequenceLineRefusal weighted known) (IsSequenceLineRefusal weighted others) line-alike [] (lines_of bytes))
  where
    line-alike : (before : List (List ℕ)) (text : List ℕ)
        → RefuseAlike (IsSequenceLineRefusal weighted known before text) (IsSequenceLineRefusal weighted others before text)
    line-alike before text =
        FirstOf-alike _ _ _ _ (λ fault. ((λ p. p), (λ p. p)))
        (FirstOf-alike _ _ _ _ (λ fault. ((λ p. p), (λ p. p)))
        (FirstOf-alike _ _ _ _ (λ fault. ((λ p. p), (λ p. p)))
        (FirstOf-alike _ _ _ _ (λ fault. ((λ p. p), (λ p. p)))
        (λ fault. (
          (λ p. (
            more-names most_items (known ++ items_of (sequences_of_lines weighted (before ++ text ∷ [])))
                (others ++ items_of (sequences_of_lines weighted (before ++ text ∷ [])))
                (λ x. (same-front known others (items_of (sequences_of_lines weighted (before ++ text ∷ []))) same x).0) p.0,
            p.1,
          )),
          (λ p. (
            more-names most_items (others ++ items_of (sequences_of_lines weighted (before ++ text ∷ [])))
                (known ++ items_of (sequences_of_lines weighted (before ++ text ∷ [])))
                (λ x. (same-front known others (items_of (sequences_of_lines weighted (before ++ text ∷ []))) same x).1) p.0,
            p.1,
          )),
        )))))

pub sequences-alike : (source : Source) (weighted : Bool) (known others : List (List ℕ)) (bytes : List ℕ) → HoldSame known others
    → RefuseAlike (RefusesSequences source weighted known bytes) (RefusesSequences source weighted others bytes)
sequences-alike (read expression file) weighted known others bytes same = file-alike weighted known others bytes same
sequences-alike (embed rule file) weighted known others bytes same = file-alike weighted known others bytes same
sequences-alike (make count expression) weighted known others bytes same = λ fault. ((λ none. none), (λ none. none))
sequences-alike (merge files) weighted known others bytes same = λ fault. ((λ none. none), (λ none. none))

-- names that are known otherwise listed leave the same names unknown
pub unknown-alike : (known others : List (List ℕ)) (uses : List Use) → HoldSame known others → RefuseAlike (IsUnknown known uses) (IsUnknown others uses)
unknown-alike known others uses same =
    FirstAmong-alike _ _ (λ before u fault. (
      (λ p. ((λ inside. p.0 ((same u.name).1 inside)), p.1)),
      (λ p. ((λ inside. p.0 ((same u.name).0 inside)), p.1)),
    )) [] uses
