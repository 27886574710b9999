-- Which token comes first in a text.
use Rattle.std.proofs.Common.{◌≡◌, ◌≢◌, ℕ, zero, suc, ◌+◌, ◌-◌, ◌<◌, ◌≤◌, inl, inr, true, false, List, [], ◌∷◌, ◌++◌, refl, sym, ap, subst, ◌∙◌, arith, length, take, drop, get_or, true≢false}
use Rattle.std.specs.Prelude.{not}
use Rattle.std.proofs.lemmas.Bool.Decides.{nat_tests}
use Rattle.std.proofs.lemmas.List.{take_all, take_more, drop_more, drop_all, append_assoc, append-nil, length-take-le}
use Rattle.mine_model.specs.Bytes.{quote, open_brace, close_brace}
use Rattle.mine_model.specs.Tokens.{Token, name, sign, repeat, open_repeat, Each, BeginsOtherwise, Spells, BeginsToken, doubled, is_quote, is_bare_byte, is_sign, is_closing_brace}
use Rattle.patex_grammar.proofs.BoundLemmas.{each-map}
use Rattle.patex_grammar.proofs.TokenLemmas.{Ends, Kind, bare, quoted, signed, braced, IsKind, BeginsKind, kind-of, doubled-cases, never-quote, quote-ends, byte-false}
use Rattle.patex_parser.specs.declared.bytes.Class.TheVariants.{Bare, Inner}
use Rattle.patex_parser.specs.declared.lexeme.Lexeme.TheVariants.{Name, Other}
use Rattle.patex_parser.specs.declared.token.Kind.{Kind as ReadKind}
use Rattle.patex_parser.specs.declared.token.Kind.TheVariants.{Mark, BadRepeat}
use Rattle.patex_parser.specs.declared.token.Mark.{Mark as ReadMark}
use Rattle.patex_parser.specs.Classes.{test_of}
use Rattle.patex_parser.specs.Scanning.{IsQuoted, IsUnclosed, IsLexeme, IsMark}
use Rattle.patex_parser.specs.Scanning as scanning

-- the same behind the first byte, as a slice
pub rest-of : (text : List ℕ) → 0 < length text → text ≡ get_or text 0 0 ∷ take (length text - 1) (drop 1 text)
rest-of [] some = absurd (omega arith)
rest-of (b ∷ text) some = ap (λ xs. b ∷ xs) (sym (take_all (length (b ∷ text) - 1) text (omega arith)))

-- a bare name
pub bare-lexeme : (text : List ℕ) (count : ℕ) → 0 < length text → is_bare_byte (get_or text 0 0) ≡ true → count ≤ length text
    → Each (test_of Bare) true (take count text) → BeginsOtherwise (test_of Bare) (drop count text) → IsLexeme text (Name (take count text)) count
bare-lexeme [] count some is within each otherwise = absurd (omega arith)
bare-lexeme (b ∷ text) count some is within each otherwise = (positive, within, name (take count (b ∷ text)), inl (refl, not_none, each, otherwise), refl)
  where
    positive : 0 < count
    positive = first count otherwise
      where
        first : (k : ℕ) → BeginsOtherwise is_bare_byte (drop k (b ∷ text)) → 0 < k
        first zero otherwise = absurd (true≢false (sym is ∙ otherwise))
        first (suc k) otherwise = omega arith

    not_none : take count (b ∷ text) ≢ []
    not_none none =
        let e : length (take count (b ∷ text)) ≡ 0 = ap length none in
        let p : 0 < count = positive in omega (arith, length-take-le count (b ∷ text) within)

-- what is doubled throughout has no closing quote
doubled-open : (t u f : List ℕ) → Ends (λ b. b ≡ quote) f → doubled t ≡ doubled u ++ quote ∷ f → ⊥
doubled-open [] [] f end same = let e : [] ≡ quote ∷ f = same in cc
doubled-open [] (c ∷ u) f end same = elim (doubled-cases c u (quote ∷ f)) [
  | inl r ↦ let e : [] ≡ quote ∷ quote ∷ doubled u ++ quote ∷ f = same ∙ r.1 in cc
  | inr r ↦ let e : [] ≡ c ∷ doubled u ++ quote ∷ f = same ∙ r.1 in cc
]
doubled-open (b ∷ t) [] f end same = elim (doubled-cases b t []) [
  | inl q ↦
      let two : quote ∷ quote ∷ doubled t ++ [] ≡ quote ∷ f = sym q.1 ∙ append-nil (doubled (b ∷ t)) ∙ same in
      let e : f ≡ quote ∷ doubled t ++ [] = cc in never-quote f _ end e
  | inr q ↦
      let two : b ∷ doubled t ++ [] ≡ quote ∷ f = sym q.1 ∙ append-nil (doubled (b ∷ t)) ∙ same in
      let e : b ≡ quote = cc in q.0 e
]
doubled-open (b ∷ t) (c ∷ u) f end same = elim (doubled-cases b t []) [
  | inl q ↦ elim (doubled-cases c u (quote ∷ f)) [
    | inl r ↦
        let two : quote ∷ quote ∷ doubled t ++ [] ≡ quote ∷ quote ∷ doubled u ++ quote ∷ f = sym q.1 ∙ append-nil (doubled (b ∷ t)) ∙ same ∙ r.1 in
        let tail : doubled t ++ [] ≡ doubled u ++ quote ∷ f = cc in
        doubled-open t u f end (sym (append-nil (doubled t)) ∙ tail)
    | inr r ↦
        let two : quote ∷ quote ∷ doubled t ++ [] ≡ c ∷ doubled u ++ quote ∷ f = sym q.1 ∙ append-nil (doubled (b ∷ t)) ∙ same ∙ r.1 in
        let e : c ≡ quote = cc in r.0 e
  ]
  | inr q ↦ elim (doubled-cases c u (quote ∷ f)) [
    | inl r ↦
        let two : b ∷ doubled t ++ [] ≡ quote ∷ quote ∷ doubled u ++ quote ∷ f = sym q.1 ∙ append-nil (doubled (b ∷ t)) ∙ same ∙ r.1 in
        let e : b ≡ quote = cc in q.0 e
    | inr r ↦
        let two : b ∷ doubled t ++ [] ≡ c ∷ doubled u ++ quote ∷ f = sym q.1 ∙ append-nil (doubled (b ∷ t)) ∙ same ∙ r.1 in
        let tail : doubled t ++ [] ≡ doubled u ++ quote ∷ f = cc in
        doubled-open t u f end (sym (append-nil (doubled t)) ∙ tail)
  ]
]

pub quoted-open : (inner bytes : List ℕ) (at : ℕ) → length inner ≤ at → take at inner ≡ doubled bytes → IsUnclosed inner
quoted-open inner bytes at all so_far text following same otherwise =
    doubled-open bytes text following (quote-ends following otherwise) (sym so_far ∙ take_all at inner all ∙ same)

-- a quoted name
pub quoted-lexeme : (text inner bytes : List ℕ) (count : ℕ) → text ≡ quote ∷ inner → IsQuoted inner bytes count → IsLexeme text (Name bytes) (count + 1)
quoted-lexeme text inner bytes count same (within, is, otherwise) =
    subst (λ xs. IsLexeme xs (Name bytes) (count + 1)) (sym same)
    (omega arith, omega arith, name bytes, inr (front ∙ ap (λ xs. quote ∷ xs) is, subst (BeginsOtherwise is_quote) (sym back) otherwise), refl)
  where
    next : count + 1 ≡ suc count
    next = omega arith

    front : take (count + 1) (quote ∷ inner) ≡ quote ∷ take count inner
    front = ap (λ n. take n (quote ∷ inner)) next

    back : drop (count + 1) (quote ∷ inner) ≡ drop count inner
    back = ap (λ n. drop n (quote ∷ inner)) next

kind-first : (b : ℕ) (rest : List ℕ) → BeginsToken (b ∷ rest) → (k : Kind) × IsKind k b
kind-first b rest (bytes, token, following, same, is) =
    let (k, begins) = kind-of token bytes following is in
    (k, subst (BeginsKind k) (sym same) begins)

spells-quote : (inner bytes : List ℕ) (token : Token) (following : List ℕ) → IsUnclosed inner → quote ∷ inner ≡ bytes ++ following → Spells bytes token following → ⊥
spells-quote inner [] (name text) following unclosed same (inl is) = is.1 (sym is.0)
spells-quote inner (b ∷ bytes) (name text) following unclosed same (inl is) =
    let e : b ≡ quote = cc in
    byte-false is_bare_byte b quote refl e (subst (Each is_bare_byte true) (sym is.0) is.2).0
spells-quote inner bytes (name text) following unclosed same (inr is) =
    let whole : quote ∷ inner ≡ quote ∷ doubled text ++ quote ∷ following =
    same ∙ ap (λ xs. xs ++ following) is.0 ∙ ap (λ xs. quote ∷ xs) (append_assoc (doubled text) (quote ∷ []) following) in
    let tail : inner ≡ doubled text ++ quote ∷ following = cc in
    unclosed text following tail is.1
spells-quote inner bytes (sign b) following unclosed same is =
    let whole : quote ∷ inner ≡ b ∷ following = same ∙ ap (λ xs. xs ++ following) is.0 in
    let e : b ≡ quote = cc in
    byte-false is_sign b quote refl e is.1
spells-quote inner bytes (repeat between) following unclosed same is =
    let whole : quote ∷ inner ≡ open_brace ∷ between ++ close_brace ∷ [] ++ following = same ∙ ap (λ xs. xs ++ following) is.0 in
    let e : quote ≡ open_brace = cc in omega arith
spells-quote inner bytes (open_repeat behind) following unclosed same is =
    let whole : quote ∷ inner ≡ open_brace ∷ behind ++ following = same ∙ ap (λ xs. xs ++ following) is.0 in
    let e : quote ≡ open_brace = cc in omega arith

pub quote-begins-none : (text inner : List ℕ) → text ≡ quote ∷ inner → IsUnclosed inner → BeginsToken text → ⊥
quote-begins-none text inner same unclosed (bytes, token, following, cut, is) = spells-quote inner bytes token following unclosed (sym same ∙ cut) is

-- a repeat
pub inner-each : (bytes : List ℕ) → Each (test_of Inner) true bytes → Each is_closing_brace false bytes
inner-each bytes each = each-map (test_of Inner) is_closing_brace true false (λ b h. no-brace b h) bytes each
  where
    no-brace : (b : ℕ) → not (is_closing_brace b) ≡ true → is_closing_brace b ≡ false
    no-brace b h = grind (arith, nat_tests)

pub open-lexeme : (inner : List ℕ) (count : ℕ) → count ≡ length inner → Each (test_of Inner) true (take count inner)
    → IsLexeme (open_brace ∷ inner) (Other BadRepeat) (count + 1)
open-lexeme inner count whole each =
    (omega arith, omega arith, open_repeat inner, (take_all (count + 1) (open_brace ∷ inner) (omega arith), inner-each inner (subst (Each (test_of Inner) true) (take_all count inner (omega arith)) each), drop_all (count + 1) (open_brace ∷ inner) (omega arith)), tt)

pub brace-is : (b : ℕ) → not (is_closing_brace b) ≡ false → b ≡ close_brace
brace-is b h = grind (arith, nat_tests)

pub closed-lexeme : (inner : List ℕ) (count : ℕ) (kind : ReadKind) → count ≤ length inner → count ≢ length inner → Each (test_of Inner) true (take count inner)
    → BeginsOtherwise (test_of Inner) (drop count inner) → scanning.IsKind (repeat (take count inner)) kind
    → IsLexeme (open_brace ∷ inner) (Other kind) (count + 1 + 1)
closed-lexeme inner count kind within more each otherwise is =
    (omega arith, omega arith, repeat (take count inner), (front, inner-each (take count inner) each), is)
  where
    less : count < length inner
    less = omega arith

    brace : get_or inner count 0 ≡ close_brace
    brace = brace-is (get_or inner count 0) (subst (BeginsOtherwise (test_of Inner)) (drop_more inner count 0 less) otherwise)

    next : count + 1 + 1 ≡ suc (count + 1)
    next = omega arith

    front : take (count + 1 + 1) (open_brace ∷ inner) ≡ open_brace ∷ take count inner ++ close_brace ∷ []
    front = ap (λ n. take n (open_brace ∷ inner)) next ∙ ap (λ xs. open_brace ∷ xs) (take_more inner count 0 less ∙ ap (λ b. take count inner ++ b ∷ []) brace)

-- a sign
pub sign-lexeme : (text : List ℕ) (mark : ReadMark) → 0 < length text → is_sign (get_or text 0 0) ≡ true → IsMark (sign (get_or text 0 0)) mark
    → IsLexeme text (Other (Mark mark)) 1
sign-lexeme [] mark some is means = absurd (omega arith)
sign-lexeme (b ∷ text) mark some is means = (omega arith, omega arith, sign b, (refl, is), means)

pub nothing-begins : (text : List ℕ) → 0 < length text → is_bare_byte (get_or text 0 0) ≡ false → get_or text 0 0 ≢ quote → get_or text 0 0 ≢ open_brace
    → is_sign (get_or text 0 0) ≡ false → BeginsToken text → ⊥
nothing-begins [] some not_bare not_quote not_brace not_sign begins = absurd (omega arith)
nothing-begins (b ∷ text) some not_bare not_quote not_brace not_sign begins = let (k, is) = kind-first b text begins in none k is
  where
    none : (k : Kind) → IsKind k b → ⊥
    none bare is = true≢false (sym is ∙ not_bare)
    none quoted is = not_quote is
    none signed is = true≢false (sym is ∙ not_sign)
    none braced is = not_brace is
