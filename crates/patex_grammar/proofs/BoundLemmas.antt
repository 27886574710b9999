-- A repeat has one least and one most.
use Rattle.std.proofs.Common.{◌≡◌, ℕ, inl, inr, Bool, true, false, Option, Some, None, List, [], ◌∷◌, ◌++◌, refl, sym, ap, ◌∙◌, subst, arith, ◌≢◌}
use Rattle.std.specs.List.{filter}
use Rattle.std.proofs.lemmas.List.{append-nil}
use Rattle.std.proofs.lemmas.List.Elements.{filter-append}
use Rattle.std.proofs.lemmas.Bool.Decides.{nat_tests}
use Rattle.mine_model.specs.Bytes.{comma}
use Rattle.mine_model.specs.Tokens.{Each, is_free}
use Rattle.std.specs.Char.{is_ascii_digit}
use Rattle.mine_model.specs.Grammar.{IsPadded, IsRepeat, value_of_digits}
use Rattle.patex_grammar.specs.Bounds.{is_comma, before_comma, behind_comma, bound_in, upper_of, most_from, least_of, most_of}

pub free_no_digit : (b : ℕ) → is_free b ≡ true → is_ascii_digit b ≡ false
free_no_digit b h = grind (arith, nat_tests)

free_no_comma : (b : ℕ) → is_free b ≡ true → is_comma b ≡ false
free_no_comma b h = grind (arith, nat_tests)

pub digit_no_comma : (b : ℕ) → is_ascii_digit b ≡ true → is_comma b ≡ false
digit_no_comma b h = grind (arith, nat_tests)

pub each-map : (f g : ℕ → Bool) (x y : Bool) → ((b : ℕ) → f b ≡ x → g b ≡ y) → (bytes : List ℕ) → Each f x bytes → Each g y bytes
each-map f g x y goes [] each = tt
each-map f g x y goes (b ∷ bytes) each = (goes b each.0, each-map f g x y goes bytes each.1)

pub each-append : (f : ℕ → Bool) (x : Bool) (first second : List ℕ) → Each f x first → Each f x second → Each f x (first ++ second)
each-append f x [] second each each' = each'
each-append f x (b ∷ first) second each each' = (each.0, each-append f x first second each.1 each')

filter-all : (f : ℕ → Bool) (bytes : List ℕ) → Each f true bytes → filter f bytes ≡ bytes
filter-all f [] each = refl
filter-all f (b ∷ bytes) each = rw each.0 (ap (λ xs. b ∷ xs) (filter-all f bytes each.1))

filter-none : (f : ℕ → Bool) (bytes : List ℕ) → Each f false bytes → filter f bytes ≡ []
filter-none f [] each = refl
filter-none f (b ∷ bytes) each = rw each.0 (filter-none f bytes each.1)

free-digits : (bytes : List ℕ) → Each is_free true bytes → filter is_ascii_digit bytes ≡ []
free-digits bytes free = filter-none is_ascii_digit bytes (each-map is_free is_ascii_digit true false free_no_digit bytes free)

pub free-commas : (bytes : List ℕ) → Each is_free true bytes → Each is_comma false bytes
free-commas bytes free = each-map is_free is_comma true false free_no_comma bytes free

-- what is padded has its digits, and no comma
padded : (bytes : List ℕ) (n : ℕ) → IsPadded bytes n
    → Each is_comma false bytes × (bound_in bytes ≡ n) × (upper_of (filter is_ascii_digit bytes) ≡ Some n)
padded bytes n (before, digits, after, same, free, free', (are, some, value)) =
    let no_comma : Each is_comma false (before ++ digits ++ after) =
    each-append is_comma false (before ++ digits) after
    (each-append is_comma false before digits (free-commas before free) (each-map is_ascii_digit is_comma true false digit_no_comma digits are)) (free-commas after free') in
    let digits_are : filter is_ascii_digit bytes ≡ digits =
    ap (filter is_ascii_digit) same ∙ filter-append is_ascii_digit (before ++ digits) after
    ∙ ap (λ xs. filter is_ascii_digit (before ++ digits) ++ xs) (free-digits after free')
    ∙ append-nil (filter is_ascii_digit (before ++ digits))
    ∙ filter-append is_ascii_digit before digits
    ∙ ap (λ xs. xs ++ filter is_ascii_digit digits) (free-digits before free)
    ∙ filter-all is_ascii_digit digits are in (
      subst (Each is_comma false) (sym same) no_comma,
      ap value_of_digits digits_are ∙ value,
      ap upper_of digits_are ∙ upper digits n some value,
    )
  where
    upper : (digits : List ℕ) (n : ℕ) → digits ≢ [] → value_of_digits digits ≡ n → upper_of digits ≡ Some n
    upper [] n some value = absurd (some refl)
    upper (d ∷ digits) n some value = ap Some value

before-none : (bytes : List ℕ) → Each is_comma false bytes → before_comma bytes ≡ bytes
before-none [] none = refl
before-none (b ∷ bytes) none = rw none.0 (ap (λ xs. b ∷ xs) (before-none bytes none.1))

behind-none : (bytes : List ℕ) → Each is_comma false bytes → behind_comma bytes ≡ None
behind-none [] none = refl
behind-none (b ∷ bytes) none = rw none.0 (behind-none bytes none.1)

before-cut : (left right : List ℕ) → Each is_comma false left → before_comma (left ++ comma ∷ right) ≡ left
before-cut [] right none = refl
before-cut (b ∷ left) right none = rw none.0 (ap (λ xs. b ∷ xs) (before-cut left right none.1))

behind-cut : (left right : List ℕ) → Each is_comma false left → behind_comma (left ++ comma ∷ right) ≡ Some right
behind-cut [] right none = refl
behind-cut (b ∷ left) right none = rw none.0 (behind-cut left right none.1)

cut-bounds : (between left right : List ℕ) (least : ℕ) (most : Option ℕ) → between ≡ left ++ comma ∷ right → Each is_comma false left
    → bound_in left ≡ least → upper_of (filter is_ascii_digit right) ≡ most → (least_of between ≡ least) × (most_of between ≡ most)
cut-bounds between left right least most same none p q = (
  ap least_of same ∙ ap bound_in (before-cut left right none) ∙ p,
  ap most_of same ∙ ap (most_from (least_of (left ++ comma ∷ right))) (behind-cut left right none) ∙ q,
)

pub repeat-bounds : (between : List ℕ) (least : ℕ) (most : Option ℕ) → IsRepeat between least most → (least_of between ≡ least) × (most_of between ≡ most)
repeat-bounds between least most (inl is) =
    let (none, value, _) = padded between least is.0 in
    let p : least_of between ≡ least = ap bound_in (before-none between none) ∙ value in
    (p, ap (most_from (least_of between)) (behind-none between none) ∙ ap Some p ∙ sym is.1)
repeat-bounds between least most (inr (left, right, same, inl is)) =
    let (none, value, _) = padded left least is.0 in
    cut-bounds between left right least most same none value (ap upper_of (free-digits right is.1) ∙ sym is.2)
repeat-bounds between least most (inr (left, right, same, inr (inl (free, zero_least, m, is, q)))) =
    let (_, _, upper) = padded right m is in
    cut-bounds between left right least most same (free-commas left free) (ap value_of_digits (free-digits left free) ∙ sym zero_least) (upper ∙ sym q)
repeat-bounds between least most (inr (left, right, same, inr (inr (is, m, is', q)))) =
    let (none, value, _) = padded left least is in
    let (_, _, upper) = padded right m is' in
    cut-bounds between left right least most same none value (upper ∙ sym q)
