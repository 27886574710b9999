-- A text says at most one share.
use Rattle.std.proofs.Common.{◌≡◌, ◌≢◌, ◌∙◌, ℕ, ◌<◌, sym, ap, subst, refl, arith, true, true≢false, false, List, [], ◌∷◌, ◌++◌, Option, Some, None, get_or, length, suc, codes}
use Rattle.std.specs.Char.{is_ascii_digit}
use Rattle.std.specs.List.{AllByRecursion}
use Rattle.std.proofs.lemmas.Option.{none-some}
use Rattle.mine_model.specs.Tokens.{Each}
use Rattle.mine_model.specs.Grammar.{value_of_digits}
use Rattle.clap.specs.Words.{Row, Text, first_of}
use Rattle.command_line.specs.declared.share.Share.{Share}
use Rattle.command_line.specs.Words.{IsNumber, IsShareText, GivesShare, slash}

-- no slash stands in the bytes
abbrev pub IsPlain : List ℕ → Type 0
IsPlain bytes = AllByRecursion (λ b. b ≡ slash → ⊥) bytes

digits-plain : (digits : List ℕ) → Each is_ascii_digit true digits → IsPlain digits
digits-plain [] all = tt
digits-plain (b ∷ digits) all =
    ((λ same. (let none : false ≡ true = subst (λ x. is_ascii_digit x ≡ true) same all.0 in true≢false (sym none))), digits-plain digits all.1)

pub bytes-plain : (bytes : List ℕ) → ((i : ℕ) → i < length bytes → get_or bytes i 0 ≢ 47) → IsPlain bytes
bytes-plain [] none = tt
bytes-plain (b ∷ bytes) none = (none 0 (omega arith), bytes-plain bytes (λ i less. none (suc i) (omega (arith, less))))

-- a slash behind bytes in which there is none is the first one
one_cut : (xs ys others rest : List ℕ) → IsPlain xs → IsPlain others → xs ++ slash ∷ ys ≡ others ++ slash ∷ rest → (xs ≡ others) × (ys ≡ rest)
one_cut [] ys [] rest p q same = (refl, (let tails : ys ≡ rest = cc in tails))
one_cut [] ys (o ∷ others) rest p q same = (let heads : o ≡ slash = cc in absurd (q.0 heads))
one_cut (x ∷ xs) ys [] rest p q same = (let heads : x ≡ slash = cc in absurd (p.0 heads))
one_cut (x ∷ xs) ys (o ∷ others) rest p q same =
    let heads : x ≡ o = cc in
    let tails : xs ++ slash ∷ ys ≡ others ++ slash ∷ rest = cc in
    let both = one_cut xs ys others rest p.1 q.1 tails in
    ((λ i. heads i ∷ both.0 i), both.1)

-- where a text that says a share is cut
pub share-cut : (text before behind : List ℕ) (share : Share) → text ≡ before ++ slash ∷ behind → IsPlain before
    → (is : IsShareText text share) → (is.before ≡ before) × (is.behind ≡ behind)
share-cut text before behind share cut plain is =
    one_cut is.before is.behind before behind (digits-plain is.before is.index.decimal.0) plain (sym is.spelled ∙ cut)

not_plain : (before behind : List ℕ) → IsPlain (before ++ slash ∷ behind) → ⊥
not_plain [] behind plain = plain.0 refl
not_plain (b ∷ before) behind plain = not_plain before behind plain.1

-- a text in which there is no slash says none
pub no-share : (text : List ℕ) → IsPlain text → (share : Share) → IsShareText text share → ⊥
no-share text plain share is = not_plain is.before is.behind (subst IsPlain is.spelled plain)

pub share-unique : (text : Text) (first second : Share) → IsShareText text first → IsShareText text second → first ≡ second
share-unique text first second a b =
    let both = share-cut text b.before b.behind first b.spelled (digits-plain b.before b.index.decimal.0) a in
    let of : first.of ≡ second.of = sym a.count.decimal.2 ∙ ap value_of_digits both.1 ∙ b.count.decimal.2 in
    let index : first.index ≡ second.index = sym a.index.decimal.2 ∙ ap value_of_digits both.0 ∙ b.index.decimal.2 in
    λ i. record { index = index i; of = of i }

pub given-share-unique : (found : List Row) (first second : Option Share) → GivesShare found first → GivesShare found second → first ≡ second
given-share-unique found None None a b = refl
given-share-unique found None (Some share) a (text, given, is) = absurd (none-some text (sym a ∙ given))
given-share-unique found (Some share) None (text, given, is) b = absurd (none-some text (sym b ∙ given))
given-share-unique found (Some first) (Some second) (text, given, is) (other, also, is_other) =
    let same : text ≡ other = (let both : Some text ≡ Some other = sym given ∙ also in cc) in
    ap (λ s. Some s) (share-unique other first second (subst (λ t. IsShareText t first) same is) is_other)

-- the digits behind the slash are the number of shares
pub count-is : (behind : List ℕ) (least most n m : ℕ) → IsNumber least most behind n → IsNumber least most behind m → n ≡ m
count-is behind least most n m a b = sym a.decimal.2 ∙ b.decimal.2

-- where this text was given, it says the share that was
pub given-text : (found : List Row) (text : Text) → Some text ≡ first_of (codes "split") found → ((share : Share) → IsShareText text share → ⊥)
    → (share : Option Share) → GivesShare found share → ⊥
given-text found text is none None gives = none-some text (sym gives ∙ sym is)
given-text found text is none (Some share) (other, given, says) =
    let same : other ≡ text = (let both : Some other ≡ Some text = sym given ∙ sym is in cc) in
    none share (subst (λ t. IsShareText t share) same says)
