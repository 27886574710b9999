-- What stands between the braces of a repeat, part by part.
use Rattle.std.proofs.Common.{◌≡◌, ◌≢◌, ℕ, ◌+◌, ◌-◌, ◌<◌, ◌≤◌, ◌⊎◌, inl, inr, Bool, true, false, Option, Some, None, List, [], ◌∷◌, ◌++◌, refl, sym, ap, subst, ◌∙◌, arith, length, take, drop, get_or, true≢false}
use Rattle.std.specs.Prelude.{not, ◌==◌}
use Rattle.std.proofs.lemmas.Bool.Decides.{nat_tests}
use Rattle.std.proofs.lemmas.List.{take-append-drop, take_all, drop_more, append_assoc, append-nil}
use Rattle.mine_model.specs.Bytes.{comma}
use Rattle.mine_model.specs.Tokens.{Each, BeginsOtherwise, is_free, repeat}
use Rattle.std.specs.Char.{is_ascii_digit}
use Rattle.mine_model.specs.Grammar.{IsPadded, IsRepeat, value_of_digits}
use Rattle.patex_grammar.specs.Bounds.{is_comma}
use Rattle.patex_grammar.proofs.BoundLemmas.{each-map, each-append, free-commas, free_no_digit, digit_no_comma}
use Rattle.mine_model.proofs.ListLemmas.{front_of_both, back_of_both}
use Rattle.patex_grammar.proofs.TokenLemmas.{cut-same, ends-otherwise}
use Rattle.patex_parser.specs.declared.bounds.Part.{Part}
use Rattle.patex_parser.specs.declared.bounds.Part.TheVariants.{Blank, Number, Other}
use Rattle.patex_parser.specs.declared.token.Kind.TheVariants.{BadRepeat}
use Rattle.patex_parser.specs.Classes.{test_of}
use Rattle.patex_parser.specs.declared.bytes.Class.TheVariants.{BeforeComma}
use Rattle.patex_parser.specs.Scanning.{IsKind}
use Rattle.patex_parser.specs.Repeats.{IsCapped, IsPart}

-- one more byte of a run
pub Each-push : (test : ℕ → Bool) (bytes : List ℕ) (b : ℕ) → Each test true bytes → test b ≡ true → Each test true (bytes ++ b ∷ [])
Each-push test bytes b each is = each-append test true bytes (b ∷ []) each (is, tt)

-- a run that does not end ends before a byte that is not of it
not-each : (test : ℕ → Bool) (bytes : List ℕ) → bytes ≢ [] → BeginsOtherwise test bytes → Each test true bytes → ⊥
not-each test [] some otherwise each = some refl
not-each test (b ∷ bytes) some otherwise each = true≢false (sym each.0 ∙ otherwise)

pub all-in-run : (test : ℕ → Bool) (bytes : List ℕ) (count : ℕ) → count ≡ length bytes → Each test true (take count bytes) → Each test true bytes
all-in-run test bytes count whole each = subst (Each test true) (take_all count bytes (omega arith)) each

pub not-in-run : (test : ℕ → Bool) (bytes : List ℕ) (count : ℕ) → count < length bytes → BeginsOtherwise test (drop count bytes) → Each test true bytes → ⊥
not-in-run test bytes count less otherwise each =
    let cut : drop count bytes ≡ get_or bytes count 0 ∷ drop (count + 1) bytes = drop_more bytes count 0 less in
    let all : Each test true (take count bytes ++ drop count bytes) = subst (Each test true) (sym (take-append-drop count bytes)) each in
    not-each test (drop count bytes) (λ none. let wrong : get_or bytes count 0 ∷ drop (count + 1) bytes ≡ [] = sym cut ∙ none in cc) otherwise
    (back_of_both (λ b. test b ≡ true) (take count bytes) (drop count bytes) all)

free-otherwise : (bytes : List ℕ) → Each is_free true bytes → BeginsOtherwise is_ascii_digit bytes
free-otherwise [] free = tt
free-otherwise (b ∷ bytes) free = free_no_digit b free.0

digits-otherwise : (digits more : List ℕ) → digits ≢ [] → Each is_ascii_digit true digits → BeginsOtherwise is_free (digits ++ more)
digits-otherwise [] more some each = absurd (some refl)
digits-otherwise (d ∷ digits) more some each = digit-not-free d each.0
  where
    digit-not-free : (d : ℕ) → is_ascii_digit d ≡ true → is_free d ≡ false
    digit-not-free d h = grind (arith, nat_tests)

-- what is padded is not blank
pub padded-not-free : (bytes : List ℕ) (n : ℕ) → IsPadded bytes n → Each is_free true bytes → ⊥
padded-not-free bytes n (before, digits, after, same, free, free', (are, some, value)) all =
    let both : Each is_free true (before ++ digits ++ after) = subst (Each is_free true) same all in
    let front : Each is_free true (before ++ digits) = front_of_both (λ b. is_free b ≡ true) (before ++ digits) after both in
    let inner : Each is_free true (digits ++ []) = subst (Each is_free true) (sym (append-nil digits)) (back_of_both (λ b. is_free b ≡ true) before digits front) in
    not-each is_free (digits ++ []) (λ none. some (sym (append-nil digits) ∙ none)) (digits-otherwise digits [] some are) inner

-- free bytes, and then what does not begin with one
pub record IsCutAt (test : ℕ → Bool) (bytes front back : List ℕ) : Type 0 where
  pub whole : bytes ≡ front ++ back
  pub each : Each test true front
  pub longest : BeginsOtherwise test back

pub run-cut : (test : ℕ → Bool) (bytes front back : List ℕ) (count : ℕ) → front ≡ take count bytes → back ≡ drop count bytes
    → Each test true (take count bytes) → BeginsOtherwise test (drop count bytes) → IsCutAt test bytes front back
run-cut test bytes front back count p q each longest = record {
  whole = sym (take-append-drop count bytes) ∙ ap (λ xs. xs ++ drop count bytes) (sym p) ∙ ap (λ xs. front ++ xs) (sym q);
  each = subst (Each test true) (sym p) each;
  longest = subst (BeginsOtherwise test) (sym q) longest;
}

pub part-number : (bytes free rest digits after : List ℕ) (told : ℕ) → IsCutAt is_free bytes free rest → IsCutAt is_ascii_digit rest digits after
    → digits ≢ [] → Each is_free true after → IsCapped (value_of_digits digits) told → IsPart bytes (Number told)
part-number bytes free rest digits after told first second some free' capped =
    (value_of_digits digits, (free, digits, after, cut, first.each, free', (second.each, some, refl)), capped)
  where
    cut : bytes ≡ free ++ digits ++ after
    cut = first.whole ∙ ap (λ xs. free ++ xs) second.whole ∙ sym (append_assoc free digits after)

pub part-other : (bytes free rest digits after : List ℕ) → IsCutAt is_free bytes free rest → rest ≢ [] → IsCutAt is_ascii_digit rest digits after
    → ((digits ≡ []) ⊎ (Each is_free true after → ⊥)) → IsPart bytes Other
part-other bytes free rest digits after first some second wrong = (not_blank, not_number wrong)
  where
    not_blank : Each is_free true bytes → ⊥
    not_blank all = not-each is_free rest some first.longest (back_of_both (λ b. is_free b ≡ true) free rest (subst (Each is_free true) first.whole all))

    parts : (digits' after' : List ℕ) → rest ≡ digits' ++ after' → Each is_ascii_digit true digits' → Each is_free true after' → (digits ≡ digits') × (after ≡ after')
    parts digits' after' e are free' =
        cut-same (λ b. is_ascii_digit b ≡ true) digits digits' after after' second.each are
        (ends-otherwise is_ascii_digit after second.longest) (ends-otherwise is_ascii_digit after' (free-otherwise after' free')) (sym second.whole ∙ e)

    behind : (before' digits' after' : List ℕ) → bytes ≡ before' ++ digits' ++ after' → Each is_free true before' → digits' ≢ [] → Each is_ascii_digit true digits' → rest ≡ digits' ++ after'
    behind before' digits' after' e free' some' are =
        let both = cut-same (λ b. is_free b ≡ true) free before' rest (digits' ++ after') first.each free'
        (ends-otherwise is_free rest first.longest) (ends-otherwise is_free (digits' ++ after') (digits-otherwise digits' after' some' are))
        (sym first.whole ∙ e ∙ append_assoc before' digits' after') in
        both.1

    not_number : ((digits ≡ []) ⊎ (Each is_free true after → ⊥)) → (n : ℕ) → IsPadded bytes n → ⊥
    not_number (inl none) n (before', digits', after', e, free', free'', (are, some', value)) =
        let both = parts digits' after' (behind before' digits' after' e free' some' are) are free'' in
        some' (sym both.0 ∙ none)
    not_number (inr not_free) n (before', digits', after', e, free', free'', (are, some', value)) =
        let both = parts digits' after' (behind before' digits' after' e free' some' are) are free'' in
        not_free (subst (Each is_free true) (sym both.1) free'')

pub comma-is : (b : ℕ) → not (b == comma) ≡ false → b ≡ comma
comma-is b h = grind (arith, nat_tests)

pub before-comma : (bytes : List ℕ) → Each (test_of BeforeComma) true bytes → Each is_comma false bytes
before-comma bytes each = each-map (test_of BeforeComma) is_comma true false (λ b h. no-comma b h) bytes each
  where
    no-comma : (b : ℕ) → not (b == comma) ≡ true → is_comma b ≡ false
    no-comma b h = grind (arith, nat_tests)

-- a text is cut at its first comma
comma-cut : (between front behind back : List ℕ) (b : ℕ) → IsCutAt (test_of BeforeComma) between front behind → behind ≡ b ∷ back → between ≡ front ++ comma ∷ back
comma-cut between front behind back b cut same =
    let is : b ≡ comma = comma-is b (subst (BeginsOtherwise (test_of BeforeComma)) same cut.longest) in
    cut.whole ∙ ap (λ xs. front ++ xs) same ∙ ap (λ x. front ++ x ∷ back) is

no-comma-cut : (between front behind : List ℕ) → IsCutAt (test_of BeforeComma) between front behind → behind ≡ [] → between ≡ front
no-comma-cut between front behind cut none = cut.whole ∙ ap (λ xs. front ++ xs) none ∙ append-nil front

-- what the parts before and behind a comma say of the bounds
abbrev pub AreParts : List ℕ → List ℕ → ℕ → Option ℕ → Type 0
AreParts left right least most =
    (IsPadded left least × Each is_free true right × (most ≡ None))
    ⊎ (Each is_free true left × (least ≡ 0) × (m : ℕ) × IsPadded right m × (most ≡ Some m))
    ⊎ (IsPadded left least × (m : ℕ) × IsPadded right m × (most ≡ Some m))

pub padded-no-comma : (bytes : List ℕ) (n : ℕ) → IsPadded bytes n → Each is_comma false bytes
padded-no-comma bytes n (before, digits, after, same, free, free', (are, some, value)) =
    subst (Each is_comma false) (sym same)
    (each-append is_comma false (before ++ digits) after
    (each-append is_comma false before digits (free-commas before free) (each-map is_ascii_digit is_comma true false digit_no_comma digits are)) (free-commas after free'))

pub no-comma-in : (left right bytes : List ℕ) → bytes ≡ left ++ comma ∷ right → Each is_comma false bytes → ⊥
no-comma-in left right bytes same none =
    let both : Each is_comma false (left ++ comma ∷ right) = subst (Each is_comma false) same none in
    true≢false (back_of_both (λ b. is_comma b ≡ false) left (comma ∷ right) both).0

left-no-comma : (left right : List ℕ) (least : ℕ) (most : Option ℕ) → AreParts left right least most → Each is_comma false left
left-no-comma left right least most (inl is) = padded-no-comma left least is.0
left-no-comma left right least most (inr (inl is)) = free-commas left is.0
left-no-comma left right least most (inr (inr is)) = padded-no-comma left least is.0

parts-here : (left right left' right' : List ℕ) (least : ℕ) (most : Option ℕ) → left ++ comma ∷ right ≡ left' ++ comma ∷ right' → Each is_comma false left
    → AreParts left' right' least most → AreParts left right least most
parts-here left right left' right' least most same none parts =
    let both = cut-same (λ b. is_comma b ≡ false) left left' (comma ∷ right) (comma ∷ right') none (left-no-comma left' right' least most parts) (λ e. true≢false e) (λ e. true≢false e) same in
    let behind : right ≡ right' = let e : comma ∷ right ≡ comma ∷ right' = both.1 in cc in
    subst (λ l. AreParts l right least most) (sym both.0) (subst (λ r. AreParts left' r least most) (sym behind) parts)

-- bounds are said by the parts round the first comma
pub repeat-parts : (between left right : List ℕ) (least : ℕ) (most : Option ℕ) → between ≡ left ++ comma ∷ right → Each is_comma false left
    → IsRepeat between least most → AreParts left right least most
repeat-parts between left right least most same none (inl is) = absurd (no-comma-in left right between same (padded-no-comma between least is.0))
repeat-parts between left right least most same none (inr (left', right', same', parts)) =
    parts-here left right left' right' least most (sym same ∙ same') none parts

-- the parts are no bounds
abbrev pub AreNoBounds : Part → Part → Type 0
AreNoBounds Blank (Number m) = ⊥
AreNoBounds (Number n) Blank = ⊥
AreNoBounds (Number n) (Number m) = ⊥
AreNoBounds left right = Unit {0}

no-parts : (p q : Part) (left right : List ℕ) (least : ℕ) (most : Option ℕ) → AreNoBounds p q → IsPart left p → IsPart right q → AreParts left right least most → ⊥
no-parts Other q left right least most none is is' (inl parts) = is.1 least parts.0
no-parts Other q left right least most none is is' (inr (inl parts)) = is.0 parts.0
no-parts Other q left right least most none is is' (inr (inr parts)) = is.1 least parts.0
no-parts Blank q left right least most none is is' (inl parts) = padded-not-free left least parts.0 is
no-parts Blank q left right least most none is is' (inr (inr parts)) = padded-not-free left least parts.0 is
no-parts Blank Blank left right least most none is is' (inr (inl parts)) = padded-not-free right parts.2 parts.3 is'
no-parts Blank Other left right least most none is is' (inr (inl parts)) = is'.1 parts.2 parts.3
no-parts Blank (Number m) left right least most none is is' parts = absurd none
no-parts (Number n) Other left right least most none is is' (inl parts) = is'.0 parts.1
no-parts (Number n) Other left right least most none is is' (inr (inl parts)) = is'.1 parts.2 parts.3
no-parts (Number n) Other left right least most none is is' (inr (inr parts)) = is'.1 parts.1 parts.2
no-parts (Number n) Blank left right least most none is is' parts = absurd none
no-parts (Number n) (Number m) left right least most none is is' parts = absurd none

-- no bounds: parts round a comma that are none
pub bad-parts : (between front behind back : List ℕ) (b : ℕ) (p q : Part) → IsCutAt (test_of BeforeComma) between front behind → behind ≡ b ∷ back
    → AreNoBounds p q → IsPart front p → IsPart back q → IsKind (repeat between) BadRepeat
bad-parts between front behind back b p q cut same none is is' =
    inl λ least most repeats. no-parts p q front back least most none is is'
    (repeat-parts between front back least most (comma-cut between front behind back b cut same) (before-comma front cut.each) repeats)

-- no bounds: no comma, and no number
pub bad-number : (between front behind : List ℕ) (p : Part) → IsCutAt (test_of BeforeComma) between front behind → behind ≡ []
    → ((n : ℕ) → p ≡ Number n → ⊥) → IsPart front p → IsKind (repeat between) BadRepeat
bad-number between front behind p cut nothing none is = inl λ least most repeats. no-number p none here least most repeats
  where
    here : IsPart between p
    here = subst (λ xs. IsPart xs p) (sym (no-comma-cut between front behind cut nothing)) is

    no_comma : Each is_comma false between
    no_comma = subst (Each is_comma false) (sym (no-comma-cut between front behind cut nothing)) (before-comma front cut.each)

    no-number : (p : Part) → ((n : ℕ) → p ≡ Number n → ⊥) → IsPart between p → (least : ℕ) (most : Option ℕ) → IsRepeat between least most → ⊥
    no-number p none is least most (inr (left, right, same, parts)) = no-comma-in left right between same no_comma
    no-number Blank none is least most (inl repeats) = padded-not-free between least repeats.0 is
    no-number Other none is least most (inl repeats) = is.1 least repeats.0
    no-number (Number n) none is least most (inl repeats) = none n refl

-- bounds of each form
pub one-number : (between front behind : List ℕ) (n : ℕ) → IsCutAt (test_of BeforeComma) between front behind → behind ≡ [] → IsPadded front n → IsRepeat between n (Some n)
one-number between front behind n cut none is = inl (subst (λ xs. IsPadded xs n) (sym (no-comma-cut between front behind cut none)) is, refl)

pub number-comma : (between front behind back : List ℕ) (b n : ℕ) → IsCutAt (test_of BeforeComma) between front behind → behind ≡ b ∷ back
    → IsPadded front n → Each is_free true back → IsRepeat between n None
number-comma between front behind back b n cut same is free = inr (front, back, comma-cut between front behind back b cut same, inl (is, free, refl))

pub comma-number : (between front behind back : List ℕ) (b m : ℕ) → IsCutAt (test_of BeforeComma) between front behind → behind ≡ b ∷ back
    → Each is_free true front → IsPadded back m → IsRepeat between 0 (Some m)
comma-number between front behind back b m cut same free is = inr (front, back, comma-cut between front behind back b cut same, inr (inl (free, refl, m, is, refl)))

pub two-numbers : (between front behind back : List ℕ) (b n m : ℕ) → IsCutAt (test_of BeforeComma) between front behind → behind ≡ b ∷ back
    → IsPadded front n → IsPadded back m → IsRepeat between n (Some m)
two-numbers between front behind back b n m cut same is is' = inr (front, back, comma-cut between front behind back b cut same, inr (inr (is, m, is', refl)))

-- a cut behind which nothing stands, or something
pub nothing-behind : (behind : List ℕ) → length behind < 1 → behind ≡ []
nothing-behind [] none = refl
nothing-behind (b ∷ behind) none = absurd (omega arith)

pub first-behind : (behind : List ℕ) → 1 ≤ length behind → behind ≡ get_or behind 0 0 ∷ take (length behind - 1) (drop 1 behind)
first-behind [] some = absurd (omega arith)
first-behind (b ∷ behind) some = ap (λ xs. b ∷ xs) (sym (take_all (length (b ∷ behind) - 1) behind (omega arith)))

pub number-other : (p q : Part) (n : ℕ) → p ≡ Number n → q ≡ Other → AreNoBounds p q
number-other p q n e f = subst (λ x. AreNoBounds x q) (sym e) (subst (AreNoBounds (Number n)) (sym f) tt)

pub blank-no-number : (p q : Part) → p ≡ Blank → ((n : ℕ) → q ≡ Number n → ⊥) → AreNoBounds p q
blank-no-number p Blank e none = subst (λ x. AreNoBounds x Blank) (sym e) tt
blank-no-number p Other e none = subst (λ x. AreNoBounds x Other) (sym e) tt
blank-no-number p (Number n) e none = absurd (none n refl)

pub other-any : (p q : Part) → p ≡ Other → AreNoBounds p q
other-any p q e = subst (λ x. AreNoBounds x q) (sym e) tt
