-- What stands between the braces of a repeat says bounds, or none.
use Rattle.std.proofs.Common.{◌≡◌, ◌≢◌, ◌⊎◌, ◌+◌, inl, inr, ℕ, true, false, min, Option, Some, None, List, [], ◌∷◌, ◌++◌, refl, sym, ap, ◌∙◌, subst, append-nil}
use Rattle.std.specs.Prelude.{not, ◌==◌}
use Rattle.std.specs.Char.{is_ascii_digit}
use Rattle.std.proofs.lemmas.Bool.{cases_Bool, false≢true}
use Rattle.mine_model.specs.Bytes.{comma}
use Rattle.mine_model.specs.Limits.{most_times}
use Rattle.mine_model.specs.Tokens.{Each, is_free, repeat}
use Rattle.mine_model.specs.Grammar.{value_of_digits, IsPadded, IsRepeat}
use Rattle.mine_model.specs.Refusal.{IsBadRepeat}
use Rattle.patex_grammar.specs.Bounds.{is_comma}
use Rattle.patex_parser.proofs.PartLemmas.{IsCutAt, part-number, part-other, padded-not-free, comma-is, before-comma, AreParts, no-comma-in, repeat-parts}
use Rattle.answer_laws.proofs.ListingLemmas.{Decided}
use Rattle.answer_laws.proofs.CuttingLemmas.{cut-run}

-- One part

blank-or-not : (bytes : List ℕ) → Decided (Each is_free true bytes)
blank-or-not [] = inl tt
blank-or-not (b ∷ bytes) = elim (cases_Bool (is_free b)) [
  | inr never ↦ inr (λ all. false≢true (sym never ∙ all.0))
  | inl is ↦ elim (blank-or-not bytes) [ inl all ↦ inl (is, all) | inr never ↦ inr (λ all. never all.1) ]
]

-- the bytes are a number with free bytes round it
abbrev HasNumber : List ℕ → Type 0
HasNumber bytes = (n : ℕ) × IsPadded bytes n

number-or-not : (bytes : List ℕ) → Decided (HasNumber bytes)
number-or-not bytes = let (free, rest, cut) = cut-run is_free bytes in by free rest cut
  where
    number : (free rest digits after : List ℕ) → IsCutAt is_free bytes free rest → rest ≢ [] → IsCutAt is_ascii_digit rest digits after → Decided (HasNumber bytes)
    number free rest [] after first some second = inr (λ has. (part-other bytes free rest [] after first some second (inl refl)).1 has.0 has.1)
    number free rest (d ∷ digits) after first some second = elim (blank-or-not after) [
      | inl all ↦
          let made = part-number bytes free rest (d ∷ digits) after (min (value_of_digits (d ∷ digits)) (most_times + 1)) first second (λ e. absurd (cc)) all refl in
          inl (made.0, made.1)
      | inr never ↦ inr (λ has. (part-other bytes free rest (d ∷ digits) after first some second (inr never)).1 has.0 has.1)
    ]

    by : (free rest : List ℕ) → IsCutAt is_free bytes free rest → Decided (HasNumber bytes)
    by free [] cut = inr (λ has. padded-not-free bytes has.0 has.1 (subst (Each is_free true) (sym (cut.whole ∙ append-nil free)) cut.each))
    by free (b ∷ rest) cut =
        let (digits, after, second) = cut-run is_ascii_digit (b ∷ rest) in
        number free (b ∷ rest) digits after cut (λ e. absurd (cc)) second

-- Round the first comma

-- bounds are said, or no bounds are
abbrev pub SaysBounds : List ℕ → Type 0
SaysBounds between = (least : ℕ) × (most : Option ℕ) × IsRepeat between least most

abbrev SaysNone : List ℕ → Type 0
SaysNone between = (least : ℕ) (most : Option ℕ) → IsRepeat between least most → ⊥

parts-or-none : (between left right : List ℕ) → between ≡ left ++ comma ∷ right → Each is_comma false left → SaysBounds between ⊎ SaysNone between
parts-or-none between left right same none = by (number-or-not left) (number-or-not right) (blank-or-not left) (blank-or-not right)
  where
    neither : ((least : ℕ) (most : Option ℕ) → AreParts left right least most → ⊥) → SaysNone between
    neither never least most is = never least most (repeat-parts between left right least most same none is)

    by : Decided (HasNumber left) → Decided (HasNumber right) → Decided (Each is_free true left) → Decided (Each is_free true right) → SaysBounds between ⊎ SaysNone between
    by (inl n) right_number left_blank (inl free) = inl (n.0, None, inr (left, right, same, inl (n.1, free, refl)))
    by (inl n) (inl m) left_blank (inr filled) = inl (n.0, Some m.0, inr (left, right, same, inr (inr (n.1, m.0, m.1, refl))))
    by (inl n) (inr never) left_blank (inr filled) = inr (neither (λ least most parts. elim parts [
      | inl is ↦ filled is.1
      | inr other ↦ elim other [ inl is ↦ never (is.2, is.3) | inr is ↦ never (is.1, is.2) ]
    ]))
    by (inr never) (inl m) (inl free) right_blank = inl (0, Some m.0, inr (left, right, same, inr (inl (free, refl, m.0, m.1, refl))))
    by (inr never) (inl m) (inr filled) right_blank = inr (neither (λ least most parts. elim parts [
      | inl is ↦ never (least, is.0)
      | inr other ↦ elim other [ inl is ↦ filled is.0 | inr is ↦ never (least, is.0) ]
    ]))
    by (inr never) (inr no_right) left_blank right_blank = inr (neither (λ least most parts. elim parts [
      | inl is ↦ never (least, is.0)
      | inr other ↦ elim other [ inl is ↦ no_right (is.2, is.3) | inr is ↦ never (least, is.0) ]
    ]))

bounds-or-none : (between : List ℕ) → SaysBounds between ⊎ SaysNone between
bounds-or-none between = let (front, behind, cut) = cut-run (λ b. not (b == comma)) between in by front behind cut
  where
    by : (front behind : List ℕ) → IsCutAt (λ b. not (b == comma)) between front behind → SaysBounds between ⊎ SaysNone between
    by front (b ∷ back) cut = parts-or-none between front back (cut.whole ∙ ap (λ x. front ++ x ∷ back) (comma-is b cut.longest)) (before-comma front cut.each)
    by front [] cut = elim (number-or-not between) [
      | inl n ↦ inl (n.0, Some n.0, inl (n.1, refl))
      | inr never ↦
          let none : Each is_comma false between = subst (Each is_comma false) (sym (cut.whole ∙ append-nil front)) (before-comma front cut.each) in
          inr (λ least most is. elim is [
            | inl one ↦ never (least, one.0)
            | inr parts ↦ no-comma-in parts.0 parts.1 between parts.2 none
          ])
    ]

-- a repeat says bounds, or is bad
pub bounds-or-bad : (between : List ℕ) → SaysBounds between ⊎ IsBadRepeat (repeat between)
bounds-or-bad between = elim (bounds-or-none between) [ inl says ↦ inl says | inr none ↦ inr (inl none) ]
