-- An expression that is not refused reads as a tree.
use Rattle.std.proofs.Common.{◌≡◌, ◌≢◌, ◌+◌, inl, inr, ℕ, true, Option, Some, None, List, [], ◌∷◌, ◌++◌, length, refl, sym, ap, ◌∙◌, subst, arith, append_assoc, append-nil}
use Rattle.std.specs.List.{AllByRecursion}
use Rattle.std.proofs.lemmas.Bool.{cases_eq}
use Rattle.std.proofs.lemmas.Bool.Decides.{nat_tests}
use Rattle.mine_model.specs.declared.fault.Fault.{Fault}
use Rattle.mine_model.specs.declared.fault.Fault.TheVariants.{BadToken, BadRepeat, Unexpected}
use Rattle.mine_model.specs.Bytes.{exclamation_mark, open_round, close_round, asterisk, plus_sign, full_stop, equals_sign, question_mark, open_square, close_square, circumflex, vertical_bar}
use Rattle.mine_model.specs.Expression.{Tree}
use Rattle.mine_model.specs.Tokens.{Token, name, sign, repeat, open_repeat, Placed, is_sign, Spells, AreTokensBefore}
use Rattle.mine_model.specs.Grammar.{Use, at, expression, Reads, ReadsAs}
use Rattle.mine_model.specs.First.{FirstOf, FirstAmong}
use Rattle.mine_model.specs.Refusal.{IsBadRepeat, IsWrongAfter, IsUnexpected, IsTooLong, HasBadToken, HasBadRepeat, HasRepeatOverLimit, HasUnexpected, IsTooDeep, HasTooManyLeaves, IsExpressionRefusal}
use Rattle.patex_grammar.specs.Machine.{round, square, Mark, name_of, caret, equals, dot, bang, bar, opening, closing, postfix, Is, State, state, next, run, finished, initial}
use Rattle.patex_grammar.specs.Holding.{Reaches}
use Rattle.patex_grammar.proofs.ReadingLemmas.{run-append, marks-append}
use Rattle.patex_grammar.proofs.PrefixLemmas.{answered-reads, reaches-begins, open-bracket, no-operand, wrong-mark}
use Rattle.answer_laws.proofs.CuttingLemmas.{tokens-or-bad}
use Rattle.answer_laws.proofs.RepeatLemmas.{bounds-or-bad}

-- Marks

abbrev HasMark : Placed → Type 0
HasMark placed = (mark : Mark Use) × Is mark placed

no-sign : (b : ℕ) → is_sign b ≡ true → b ≢ exclamation_mark → b ≢ equals_sign → b ≢ circumflex → b ≢ full_stop → b ≢ open_round → b ≢ close_round
    → b ≢ open_square → b ≢ close_square → b ≢ vertical_bar → b ≢ asterisk → b ≢ plus_sign → b ≢ question_mark → ⊥
no-sign b is n1 n2 n3 n4 n5 n6 n7 n8 n9 n10 n11 n12 = grind (arith, nat_tests)

sign-mark : (k b : ℕ) → is_sign b ≡ true → HasMark (at k (sign b))
sign-mark k b is = elim (cases_eq b exclamation_mark) [
  | inl e ↦ (bang, ap sign e)
  | inr n1 ↦ elim (cases_eq b equals_sign) [
    | inl e ↦ (equals, ap sign e)
    | inr n2 ↦ elim (cases_eq b circumflex) [
      | inl e ↦ (caret, ap sign e)
      | inr n3 ↦ elim (cases_eq b full_stop) [
        | inl e ↦ (dot, ap sign e)
        | inr n4 ↦ elim (cases_eq b open_round) [
          | inl e ↦ (opening round, ap sign e)
          | inr n5 ↦ elim (cases_eq b close_round) [
            | inl e ↦ (closing round, ap sign e)
            | inr n6 ↦ elim (cases_eq b open_square) [
              | inl e ↦ (opening square, ap sign e)
              | inr n7 ↦ elim (cases_eq b close_square) [
                | inl e ↦ (closing square, ap sign e)
                | inr n8 ↦ elim (cases_eq b vertical_bar) [
                  | inl e ↦ (bar, ap sign e)
                  | inr n9 ↦ elim (cases_eq b asterisk) [
                    | inl e ↦ (postfix 0 None, inl (e, refl, refl))
                    | inr n10 ↦ elim (cases_eq b plus_sign) [
                      | inl e ↦ (postfix 1 None, inr (inl (e, refl, refl)))
                      | inr n11 ↦ elim (cases_eq b question_mark) [
                        | inl e ↦ (postfix 0 (Some 1), inr (inr (e, refl, refl)))
                        | inr n12 ↦ absurd (no-sign b is n1 n2 n3 n4 n5 n6 n7 n8 n9 n10 n11 n12)
                      ]
                    ]
                  ]
                ]
              ]
            ]
          ]
        ]
      ]
    ]
  ]
]

-- a token that is spelled and no bad repeat has a mark
mark-at : (k : ℕ) (token : Token) (bytes following : List ℕ) → Spells bytes token following → (IsBadRepeat token → ⊥) → HasMark (at k token)
mark-at k (name text) bytes following spells sound = (name_of (record { column = k; name = text }), refl)
mark-at k (sign b) bytes following spells sound = sign-mark k b spells.1
mark-at k (repeat between) bytes following spells sound = elim (bounds-or-bad between) [
  | inl bounds ↦ (postfix bounds.0 bounds.1, bounds.2)
  | inr bad ↦ absurd (sound bad)
]
mark-at k (open_repeat behind) bytes following spells sound = absurd (sound tt)

marked : (column : ℕ) (text : List ℕ) (tokens : List Placed) (end : ℕ) (rest : List ℕ) → AreTokensBefore column text tokens end rest
    → AllByRecursion (λ p. IsBadRepeat p.token → ⊥) tokens → AllByRecursion HasMark tokens
marked column text [] end rest are sound = tt
marked column text (p ∷ tokens) end rest (free, bytes, following, cut, frees, here, spells, more) sound = (
  mark-at p.column p.token bytes following spells sound.0,
  marked (column + length free + length bytes) following tokens end rest more sound.1,
)

-- What is not refused

none-of : {F : Type 0} (First Second : F → Type 0) → ((fault : F) → FirstOf First Second fault → ⊥)
    → ((fault : F) → First fault → ⊥) × ((fault : F) → Second fault → ⊥)
none-of First Second none = (λ fault is. none fault (inl is), λ fault is. none fault (inr ((λ other first. none other (inl first)), is)))

-- the first token of a kind, behind these
abbrev IsFirstAfter : (List Placed → Placed → Type 0) → List Placed → List Placed → ℕ → Type 0
IsFirstAfter Has before tokens column = FirstAmong (λ before placed at. Has before placed × (at ≡ placed.column)) before tokens column

none-after : (Has : List Placed → Placed → Type 0) (before : List Placed) (p : Placed) (tokens : List Placed)
    → ((column : ℕ) → IsFirstAfter Has before (p ∷ tokens) column → ⊥)
    → (Has before p → ⊥) × ((column : ℕ) → IsFirstAfter Has (before ++ p ∷ []) tokens column → ⊥)
none-after Has before p tokens none =
    let both = none-of (λ column. Has before p × (column ≡ p.column)) (IsFirstAfter Has (before ++ p ∷ []) tokens) none in
    (λ has. both.0 p.column (has, refl), both.1)

sound : (before tokens : List Placed) → ((column : ℕ) → IsFirstAfter (λ before placed. IsBadRepeat placed.token) before tokens column → ⊥)
    → AllByRecursion (λ p. IsBadRepeat p.token → ⊥) tokens
sound before [] none = tt
sound before (p ∷ tokens) none =
    let both = none-after (λ before placed. IsBadRepeat placed.token) before p tokens none in
    (both.0, sound (before ++ p ∷ []) tokens both.1)

-- a token that is not wrong is read
read-on : (before : List Placed) (p : Placed) (s : State Use) → Reaches before s → HasMark p → (IsWrongAfter before p → ⊥)
    → (s' : State Use) × Reaches (before ++ p ∷ []) s'
read-on before p s (marks, are, ran) (mark, is) right = by (next s mark) refl
  where
    by : (o : Option (State Use)) → next s mark ≡ o → (s' : State Use) × Reaches (before ++ p ∷ []) s'
    by None e = absurd (right (wrong-mark before p mark s (marks, are, ran) is e))
    by (Some s') e = (
      s',
      (
        marks ++ mark ∷ [],
        marks-append before (p ∷ []) marks (mark ∷ []) are (is, tt),
        run-append (Some initial) marks (mark ∷ []) ∙ ap (λ x. run x (mark ∷ [])) ran ∙ e,
      ),
    )

-- where no token is wrong the machine reads all
reached : (before tokens : List Placed) (s : State Use) → Reaches before s → AllByRecursion HasMark tokens
    → ((column : ℕ) → IsFirstAfter IsWrongAfter before tokens column → ⊥) → (s' : State Use) × Reaches (before ++ tokens) s'
reached before [] s reaches all none = (s, subst (λ l. Reaches l s) (sym (append-nil before)) reaches)
reached before (p ∷ tokens) s reaches all none =
    let both = none-after IsWrongAfter before p tokens none in
    let (s', here) = read-on before p s reaches all.0 both.0 in
    let (last, there) = reached (before ++ p ∷ []) tokens s' here all.1 both.1 in
    (last, subst (λ l. Reaches l last) (append_assoc before (p ∷ []) tokens) there)

-- and it is read as a tree where the end is not wrong either
whole : (text : List ℕ) (tokens : List Placed) (s : State Use) → Reaches tokens s → ((column : ℕ) → IsUnexpected text tokens column → ⊥)
    → (tree : Tree Use) × Reads expression tokens tree
whole text tokens (state (f ∷ stack) choice row last) reaches none = absurd (none (length text + 1) (inr (
  reaches-begins tokens (state (f ∷ stack) choice row last) reaches,
  (λ tree reads. open-bracket tokens f stack choice row last tree reaches reads),
  refl,
)))
whole text tokens (state [] choice row last) reaches none = by (finished choice row last) refl
  where
    by : (o : Option (Tree Use)) → finished choice row last ≡ o → (tree : Tree Use) × Reads expression tokens tree
    by (Some tree) e = (tree, answered-reads tokens tree (choice, row, last, reaches, e))
    by None e = absurd (none (length text + 1) (inr (
      reaches-begins tokens (state [] choice row last) reaches,
      (λ tree reads. no-operand tokens choice row last tree reaches e reads),
      refl,
    )))

module _ (text : List ℕ) where
  abbrev AfterUnexpected : Fault → Type 0
  AfterUnexpected = FirstOf (IsTooDeep text) (HasTooManyLeaves text)

  abbrev AfterOverLimit : Fault → Type 0
  AfterOverLimit = FirstOf (HasUnexpected text) AfterUnexpected

  abbrev AfterBadRepeat : Fault → Type 0
  AfterBadRepeat = FirstOf (HasRepeatOverLimit text) AfterOverLimit

  abbrev AfterBadToken : Fault → Type 0
  AfterBadToken = FirstOf (HasBadRepeat text) AfterBadRepeat

  pub accepted : ((fault : Fault) → IsExpressionRefusal text fault → ⊥) → (tree : Tree Use) × ReadsAs text tree
  accepted none =
      let short = none-of (IsTooLong text) (FirstOf (HasBadToken text) AfterBadToken) none in
      let good = none-of (HasBadToken text) AfterBadToken short.1 in
      let repeats = none-of (HasBadRepeat text) AfterBadRepeat good.1 in
      let within = none-of (HasRepeatOverLimit text) AfterOverLimit repeats.1 in
      let right = none-of (HasUnexpected text) AfterUnexpected within.1 in
      elim (tokens-or-bad text) [
        | inr bad ↦ absurd (good.0 (BadToken bad.0) (bad.0, bad.1, refl))
        | inl some ↦
            let (tokens, are) = some in
            let all : AllByRecursion HasMark tokens = marked 1 text tokens are.0 [] are.1
            (sound [] tokens (λ column is. repeats.0 (BadRepeat column) (tokens, column, are, is, refl))) in
            let unexpected : (column : ℕ) → IsUnexpected text tokens column → ⊥ = λ column is. right.0 (Unexpected column) (tokens, column, are, is, refl) in
            let (s, reaches) = reached [] tokens initial ([], tt, refl) all (λ column is. unexpected column (inl is)) in
            let (tree, reads) = whole text tokens s reaches unexpected in
            (tree, (tokens, are, reads))
      ]
