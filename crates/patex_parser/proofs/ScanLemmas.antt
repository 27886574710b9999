-- How far a text was read, one step on.
use Rattle.std.proofs.Common.{◌≡◌, ◌≢◌, ℕ, ◌+◌, ◌-◌, ◌<◌, ◌≤◌, inl, inr, true, false, List, [], ◌∷◌, ◌++◌, refl, sym, ap, subst, ◌∙◌, arith, length, take, drop, get_or, length-append, length-drop}
use Rattle.std.proofs.lemmas.List.{take-append-drop, drop_more, drop-drop, drop_all, append_assoc, append-nil, length-take-le}
use Rattle.mine_model.specs.Tokens.{Token, Placed, BeginsOtherwise, AreTokensBefore, BeginsToken, IsBadToken, is_free, name}
use Rattle.mine_model.specs.Grammar.{Use, at}
use Rattle.patex_parser.specs.declared.lexeme.Lexeme.{Lexeme}
use Rattle.patex_parser.specs.declared.lexeme.Lexeme.TheVariants.{Name as NameLexeme, Other}
use Rattle.patex_parser.specs.declared.token.ReadToken.{ReadToken}
use Rattle.patex_parser.specs.Scanning.{IsLexeme, IsLexemeOf, token_of, uses_in, AreRead, IsScannedTo, IsScanned}

placed-is : (p : Placed) (column : ℕ) (token : Token) → p.column ≡ column → p.token ≡ token → p ≡ at column token
placed-is p column token e f = ap (λ (c : ℕ). at c p.token) e ∙ ap (at column) f

-- one more token that was read
read-push : (k j : ℕ) (placed : List Placed) (p : Placed) (reads : List ReadToken) (uses : List Use) (column : ℕ) (lexeme : Lexeme)
    → p.column ≡ column → IsLexemeOf p.token lexeme → j ≡ k + length uses → AreRead k placed reads uses
    → AreRead k (placed ++ p ∷ []) (reads ++ token_of column j lexeme ∷ []) (uses ++ uses_in column lexeme)
read-push k j [] p [] uses column (Other kind) here is count none =
    (sym here, inr (is, ap (λ us. us ++ []) none))
read-push k j [] p [] uses column (NameLexeme text) here is count none =
    let u : Use = record { column = column; name = text } in
    let number : j ≡ k = omega (arith, count, ap length none) in
    (sym here, inl (u, [], placed-is p column (name text) here is, ap (λ us. us ++ u ∷ []) none, record { 0 = j }, refl, number, refl))
read-push k j [] p (r ∷ reads) uses column lexeme here is count none = absurd none
read-push k j (q ∷ placed) p [] uses column lexeme here is count none = absurd none
read-push k j (q ∷ placed) p (r ∷ reads) uses column lexeme here is count (same, inl (u, more, e, f, item, g, h, rest)) = (
  same,
  inl (
    u,
    more ++ uses_in column lexeme,
    e,
    ap (λ us. us ++ uses_in column lexeme) f,
    item,
    g,
    h,
    read-push (k + 1) j placed p reads more column lexeme here is (omega (arith, count, ap length f)) rest,
  ),
)
read-push k j (q ∷ placed) p (r ∷ reads) uses column lexeme here is count (same, inr (kind, rest)) =
    (same, inr (kind, read-push k j placed p reads uses column lexeme here is count rest))

-- a free byte, and then tokens before a rest
free-before : (column b : ℕ) (text : List ℕ) (tokens : List Placed) (end : ℕ) (rest : List ℕ) → is_free b ≡ true
    → AreTokensBefore (column + 1) text tokens end rest → AreTokensBefore column (b ∷ text) tokens end rest
free-before column b text [] end rest is (free, same, frees, here, otherwise) =
    (b ∷ free, ap (λ xs. b ∷ xs) same, (is, frees), omega (arith, here), otherwise)
free-before column b text (first ∷ others) end rest is (free, bytes, following, same, frees, here, spells, more) = (
  b ∷ free,
  bytes,
  following,
  ap (λ xs. b ∷ xs) same,
  (is, frees),
  omega (arith, here),
  spells,
  subst (λ k. AreTokensBefore (k + length bytes) following others end rest) next more,
)
  where
    next : column + 1 + length free ≡ column + length (b ∷ free)
    next = omega arith

pub scanned-free : (text : List ℕ) (k : ℕ) (reads : List ReadToken) (uses : List Use) → k < length text → is_free (get_or text k 0) ≡ true
    → IsScannedTo text k reads uses → IsScannedTo text (k + 1) reads uses
scanned-free text k reads uses less is scanned = record {
  within = omega arith;
  few = omega (arith, scanned.few);
  placed = scanned.placed;
  before = λ others end rest are. scanned.before others end rest
      (subst (λ xs. AreTokensBefore (k + 1) xs others end rest) (sym (drop_more text k 0 less))
      (free-before (k + 1) (get_or text k 0) (drop (k + 1) text) others end rest is are));
  are_read = scanned.are_read;
}

few-uses : (uses : List Use) (column : ℕ) (lexeme : Lexeme) → length (uses ++ uses_in column lexeme) ≤ length uses + 1
few-uses uses column (NameLexeme text) = omega (arith, length-append uses (uses_in column (NameLexeme text)))
few-uses uses column (Other kind) = omega (arith, length-append uses (uses_in column (Other kind)))

pub scanned-token : (text behind : List ℕ) (k count : ℕ) (lexeme : Lexeme) (reads : List ReadToken) (uses : List Use) → k < length text → behind ≡ drop k text
    → IsLexeme behind lexeme count → IsScannedTo text k reads uses
    → IsScannedTo text (k + count) (reads ++ token_of (k + 1) (length uses) lexeme ∷ []) (uses ++ uses_in (k + 1) lexeme)
scanned-token text behind k count lexeme reads uses less same (some, within, token, spells, is) scanned = record {
  within = fits;
  few = omega (arith, scanned.few, few-uses uses (k + 1) lexeme);
  placed = scanned.placed ++ p ∷ [];
  before = λ others end rest are. subst (λ xs. AreTokensBefore 1 text xs end rest) (sym (append_assoc scanned.placed (p ∷ []) others))
      (scanned.before (p ∷ others) end rest (token-first others end rest are));
  are_read = read-push 0 (length uses) scanned.placed p reads uses (k + 1) lexeme refl is (omega arith) scanned.are_read;
}
  where
    p : Placed
    p = at (k + 1) token

    fits : k + count ≤ length text
    fits = let e : length (drop k text) ≡ length text - k = length-drop k text in omega (arith, ap length same)

    back : drop count behind ≡ drop (k + count) text
    back = ap (drop count) same ∙ drop-drop count k text

    next : k + count + 1 ≡ k + 1 + 0 + length (take count behind)
    next = omega (arith, length-take-le count behind within)

    token-first : (others : List Placed) (end : ℕ) (rest : List ℕ) → AreTokensBefore (k + count + 1) (drop (k + count) text) others end rest
        → AreTokensBefore (k + 1) (drop k text) (p ∷ others) end rest
    token-first others end rest are = (
      [],
      take count behind,
      drop count behind,
      sym same ∙ sym (take-append-drop count behind),
      tt,
      omega arith,
      spells,
      subst (λ xs. AreTokensBefore (k + 1 + 0 + length (take count behind)) xs others end rest) (sym back)
          (subst (λ c. AreTokensBefore c (drop (k + count) text) others end rest) next are),
    )

-- where no token begins, and no free byte stands, the text has a bad token
pub scanned-bad : (text behind : List ℕ) (k : ℕ) (reads : List ReadToken) (uses : List Use) → k < length text → behind ≡ drop k text
    → is_free (get_or text k 0) ≡ false → (BeginsToken behind → ⊥) → IsScannedTo text k reads uses → IsBadToken text (k + 1)
scanned-bad text behind k reads uses less same not_free none scanned =
    (scanned.placed ++ [], drop k text, scanned.before [] (k + 1) (drop k text) nothing-more, some, λ begins. none (subst BeginsToken (sym same) begins))
  where
    cut : drop k text ≡ get_or text k 0 ∷ drop (k + 1) text
    cut = drop_more text k 0 less

    nothing-more : AreTokensBefore (k + 1) (drop k text) [] (k + 1) (drop k text)
    nothing-more = ([], refl, tt, omega arith, subst (BeginsOtherwise is_free) (sym cut) not_free)

    some : drop k text ≢ []
    some none = let e : get_or text k 0 ∷ drop (k + 1) text ≡ [] = sym cut ∙ none in cc

pub scanned-all : (text : List ℕ) (k : ℕ) (reads : List ReadToken) (uses : List Use) → length text ≤ k → IsScannedTo text k reads uses → IsScanned text reads uses
scanned-all text k reads uses all scanned =
    (scanned.placed ++ [], (k + 1, scanned.before [] (k + 1) [] nothing-more), subst (λ xs. AreRead 0 xs reads uses) (sym (append-nil scanned.placed)) scanned.are_read)
  where
    nothing-more : AreTokensBefore (k + 1) (drop k text) [] (k + 1) []
    nothing-more = ([], drop_all k text all, tt, omega arith, tt)
