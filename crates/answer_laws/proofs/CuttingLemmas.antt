-- A text is cut into tokens, up to its end or to a bad one.
use Rattle.std.proofs.Common.{◌≡◌, ◌≢◌, ◌⊎◌, ◌+◌, ◌≤◌, ◌<◌, inl, inr, ℕ, zero, suc, Bool, true, false, List, [], ◌∷◌, ◌++◌, length, length-append, refl, sym, ap, ◌∙◌, subst, arith, append_assoc}
use Rattle.std.specs.Prelude.{not}
use Rattle.std.proofs.lemmas.Bool.{cases_Bool, cases_eq}
use Rattle.std.proofs.lemmas.Bool.Decides.{nat_tests}
use Rattle.mine_model.specs.Bytes.{quote, open_brace, close_brace}
use Rattle.mine_model.specs.Tokens.{Token, name, sign, repeat, open_repeat, Placed, is_free, is_bare_byte, is_sign, is_quote, is_closing_brace, doubled, BeginsOtherwise, Spells, AreTokensBefore, AreTokens, BeginsToken, IsBadToken}
use Rattle.patex_grammar.proofs.TokenLemmas.{doubled-cases, never-quote, quote-ends, nothing-begins-none}
use Rattle.patex_parser.specs.Scanning.{IsUnclosed}
use Rattle.patex_parser.proofs.PartLemmas.{IsCutAt}
use Rattle.patex_parser.proofs.LexemeLemmas.{quote-begins-none, nothing-begins, inner-each, brace-is}

-- the bytes in front that pass a test
pub cut-run : (test : ℕ → Bool) (bytes : List ℕ) → (front : List ℕ) × (back : List ℕ) × IsCutAt test bytes front back
cut-run test [] = ([], [], record { whole = refl; each = tt; longest = tt })
cut-run test (b ∷ bytes) = elim (cases_Bool (test b)) [
  | inl is ↦
      let (front, back, cut) = cut-run test bytes in
      (b ∷ front, back, record { whole = ap (λ l. b ∷ l) cut.whole; each = (is, cut.each); longest = cut.longest })
  | inr otherwise ↦ ([], b ∷ bytes, record { whole = refl; each = tt; longest = otherwise })
]

-- Quoted names

-- a quote closes the name that begins with these bytes
abbrev IsClosed : List ℕ → Type 0
IsClosed inner = (text : List ℕ) × (following : List ℕ) × (inner ≡ doubled text ++ quote ∷ following) × BeginsOtherwise is_quote following

other-closed : (c : ℕ) (rest : List ℕ) → (c ≡ quote → ⊥) → IsClosed rest → IsClosed (c ∷ rest)
other-closed c rest other (text, following, same, otherwise) = elim (doubled-cases c text (quote ∷ following)) [
  | inl q ↦ absurd (other q.0)
  | inr q ↦ (c ∷ text, following, ap (λ l. c ∷ l) same ∙ sym q.1, otherwise)
]

other-unclosed : (c : ℕ) (rest : List ℕ) → (c ≡ quote → ⊥) → IsUnclosed rest → IsUnclosed (c ∷ rest)
other-unclosed c rest other unclosed [] following same otherwise =
    let whole : c ∷ rest ≡ quote ∷ following = same in
    let e : c ≡ quote = cc in other e
other-unclosed c rest other unclosed (d ∷ text) following same otherwise = elim (doubled-cases d text (quote ∷ following)) [
  | inl q ↦
      let two : c ∷ rest ≡ quote ∷ quote ∷ doubled text ++ quote ∷ following = same ∙ q.1 in
      let e : c ≡ quote = cc in other e
  | inr q ↦
      let two : c ∷ rest ≡ d ∷ doubled text ++ quote ∷ following = same ∙ q.1 in
      let tail : rest ≡ doubled text ++ quote ∷ following = cc in unclosed text following tail otherwise
]

pair-closed : (rest : List ℕ) → IsClosed rest → IsClosed (quote ∷ quote ∷ rest)
pair-closed rest (text, following, same, otherwise) = elim (doubled-cases quote text (quote ∷ following)) [
  | inl q ↦ (quote ∷ text, following, ap (λ l. quote ∷ quote ∷ l) same ∙ sym q.1, otherwise)
  | inr q ↦ absurd (q.0 refl)
]

pair-unclosed : (rest : List ℕ) → IsUnclosed rest → IsUnclosed (quote ∷ quote ∷ rest)
pair-unclosed rest unclosed [] following same otherwise =
    let whole : quote ∷ quote ∷ rest ≡ quote ∷ following = same in
    let e : following ≡ quote ∷ rest = cc in never-quote following rest (quote-ends following otherwise) e
pair-unclosed rest unclosed (d ∷ text) following same otherwise = elim (doubled-cases d text (quote ∷ following)) [
  | inl q ↦
      let two : quote ∷ quote ∷ rest ≡ quote ∷ quote ∷ doubled text ++ quote ∷ following = same ∙ q.1 in
      let tail : rest ≡ doubled text ++ quote ∷ following = cc in unclosed text following tail otherwise
  | inr q ↦
      let two : quote ∷ quote ∷ rest ≡ d ∷ doubled text ++ quote ∷ following = same ∙ q.1 in
      let e : d ≡ quote = cc in q.0 e
]

none-unclosed : IsUnclosed []
none-unclosed text following same otherwise = omega (arith, ap length same, length-append (doubled text) (quote ∷ following))

no-quote : (b : ℕ) → b ≢ quote → is_quote b ≡ false
no-quote b other = grind (arith, nat_tests, other)

closed-or-not : (inner : List ℕ) → IsClosed inner ⊎ IsUnclosed inner
closed-or-not [] = inr none-unclosed
closed-or-not (c ∷ []) = elim (cases_eq c quote) [
  | inl is ↦ inl ([], [], ap (λ x. x ∷ []) is, tt)
  | inr other ↦ inr (other-unclosed c [] other none-unclosed)
]
closed-or-not (c ∷ e ∷ rest) = elim (cases_eq c quote) [
  | inr other ↦ elim (closed-or-not (e ∷ rest)) [
    | inl closed ↦ inl (other-closed c (e ∷ rest) other closed)
    | inr unclosed ↦ inr (other-unclosed c (e ∷ rest) other unclosed)
  ]
  | inl is ↦ elim (cases_eq e quote) [
    | inr other ↦ inl ([], e ∷ rest, ap (λ x. x ∷ e ∷ rest) is, no-quote e other)
    | inl again ↦
        let both : quote ∷ quote ∷ rest ≡ c ∷ e ∷ rest = λ i. sym is i ∷ sym again i ∷ rest in
        elim (closed-or-not rest) [
          | inl closed ↦ inl (subst IsClosed both (pair-closed rest closed))
          | inr unclosed ↦ inr (subst IsUnclosed both (pair-unclosed rest unclosed))
        ]
  ]
]

-- One token

brace-begins : (more front back : List ℕ) → IsCutAt (λ b. not (is_closing_brace b)) more front back → BeginsToken (open_brace ∷ more)
brace-begins more front [] cut = (open_brace ∷ front, open_repeat front, [], ap (λ l. open_brace ∷ l) cut.whole, (refl, inner-each front cut.each, refl))
brace-begins more front (c ∷ back) cut = (
  open_brace ∷ front ++ close_brace ∷ [],
  repeat front,
  back,
  ap (λ l. open_brace ∷ l) (cut.whole ∙ ap (λ x. front ++ x ∷ back) (brace-is c cut.longest) ∙ sym (append_assoc front (close_brace ∷ []) back)),
  (refl, inner-each front cut.each),
)

bare-begins : (b : ℕ) (more : List ℕ) → is_bare_byte b ≡ true → BeginsToken (b ∷ more)
bare-begins b more is =
    let (front, back, cut) = cut-run is_bare_byte more in
    (b ∷ front, name (b ∷ front), back, ap (λ l. b ∷ l) cut.whole, inl (refl, (λ e. absurd (cc)), (is, cut.each), cut.longest))

quote-begins : (more : List ℕ) → BeginsToken (quote ∷ more) ⊎ (BeginsToken (quote ∷ more) → ⊥)
quote-begins more = elim (closed-or-not more) [
  | inl closed ↦
      let (text, following, same, otherwise) = closed in
      inl (
        quote ∷ doubled text ++ quote ∷ [],
        name text,
        following,
        ap (λ l. quote ∷ l) (same ∙ sym (append_assoc (doubled text) (quote ∷ []) following)),
        inr (refl, otherwise),
      )
  | inr unclosed ↦ inr (quote-begins-none (quote ∷ more) more refl unclosed)
]

-- a token begins here or does not
token-or-none : (text : List ℕ) → BeginsToken text ⊎ (BeginsToken text → ⊥)
token-or-none [] = inr nothing-begins-none
token-or-none (b ∷ more) = elim (cases_Bool (is_bare_byte b)) [
  | inl is ↦ inl (bare-begins b more is)
  | inr not_bare ↦ elim (cases_eq b quote) [
    | inl is ↦ subst (λ b. BeginsToken (b ∷ more) ⊎ (BeginsToken (b ∷ more) → ⊥)) (sym is) (quote-begins more)
    | inr not_quote ↦ elim (cases_eq b open_brace) [
      | inl is ↦
          let (front, back, cut) = cut-run (λ b. not (is_closing_brace b)) more in
          inl (subst (λ b. BeginsToken (b ∷ more)) (sym is) (brace-begins more front back cut))
      | inr not_brace ↦ elim (cases_Bool (is_sign b)) [
        | inl is ↦ inl (b ∷ [], sign b, more, refl, (refl, is))
        | inr not_sign ↦ inr (nothing-begins (b ∷ more) (omega arith) not_bare not_quote not_brace not_sign)
      ]
    ]
  ]
]

spelled-some : (bytes : List ℕ) (token : Token) (following : List ℕ) → Spells bytes token following → 1 ≤ length bytes
spelled-some bytes (name []) following (inl is) = absurd (is.1 refl)
spelled-some bytes (name (b ∷ text)) following (inl is) = omega (arith, ap length is.0)
spelled-some bytes (name text) following (inr is) = omega (arith, ap length is.0)
spelled-some bytes (sign b) following is = omega (arith, ap length is.0)
spelled-some bytes (repeat between) following is = omega (arith, ap length is.0)
spelled-some bytes (open_repeat behind) following is = omega (arith, ap length is.0)

-- All tokens

-- from this column on the text is tokens up to its end, or up to where none begins
abbrev IsCutUp : ℕ → List ℕ → Type 0
IsCutUp column text = (tokens : List Placed) × (end : ℕ) × (rest : List ℕ) × AreTokensBefore column text tokens end rest
    × ((rest ≡ []) ⊎ ((rest ≢ []) × (BeginsToken rest → ⊥)))

one-more : (column : ℕ) (text free rest : List ℕ) → IsCutAt is_free text free rest → BeginsToken rest ⊎ (BeginsToken rest → ⊥)
    → ((c : ℕ) (t : List ℕ) → length t < length text → IsCutUp c t) → IsCutUp column text
one-more column text free [] cut begins others = ([], column + length free, [], (free, cut.whole, cut.each, refl, tt), inl refl)
one-more column text free (b ∷ rest) cut (inr none) others =
    ([], column + length free, b ∷ rest, (free, cut.whole, cut.each, refl, cut.longest), inr ((λ e. absurd (cc)), none))
one-more column text free (b ∷ rest) cut (inl (bytes, token, following, same, spells)) others =
    let shorter : length following < length text = omega (
      arith,
      ap length cut.whole,
      length-append free (b ∷ rest),
      ap length same,
      length-append bytes following,
      spelled-some bytes token following spells,
    ) in
    let (tokens, end, behind, are, ends) = others (column + length free + length bytes) following shorter in (
      record { column = column + length free; token = token } ∷ tokens,
      end,
      behind,
      (free, bytes, following, cut.whole ∙ ap (λ l. free ++ l) same ∙ sym (append_assoc free bytes following), cut.each, refl, spells, are),
      ends,
    )

cut-up : (n : ℕ) (column : ℕ) (text : List ℕ) → length text ≤ n → IsCutUp column text
cut-up zero column [] within = ([], column + 0, [], ([], refl, tt, refl, tt), inl refl)
cut-up zero column (b ∷ text) within = absurd (omega (arith, within))
cut-up (suc n) column text within =
    let (free, rest, cut) = cut-run is_free text in
    one-more column text free rest cut (token-or-none rest) (λ c t less. cut-up n c t (omega (arith, within, less)))

-- a text is tokens, or has a bad one
pub tokens-or-bad : (text : List ℕ) → ((tokens : List Placed) × AreTokens text tokens) ⊎ ((column : ℕ) × IsBadToken text column)
tokens-or-bad text =
    let (tokens, end, rest, are, ends) = cut-up (length text) 1 text (omega arith) in
    elim ends [
      | inl none ↦ inl (tokens, (end, subst (AreTokensBefore 1 text tokens end) none are))
      | inr some ↦ inr (end, (tokens, rest, are, some.0, some.1))
    ]
