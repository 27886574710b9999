-- Tokens are one list of marks.
use Rattle.std.proofs.Common.{◌≡◌, ℕ, inl, inr, Option, Some, None, List, [], ◌∷◌, refl, sym, ap, ◌∙◌}
use Rattle.std.specs.Prelude.{◌==◌, if◌then◌else◌}
use Rattle.mine_model.specs.Bytes.{exclamation_mark, open_round, close_round, asterisk, plus_sign, equals_sign, full_stop, open_square, close_square, circumflex, vertical_bar}
use Rattle.mine_model.specs.Tokens.{Token, name, sign, repeat, open_repeat, Placed}
use Rattle.mine_model.specs.Grammar.{IsPostfix, Use}
use Rattle.patex_grammar.specs.Machine.{round, square, Mark, name_of, caret, equals, dot, bang, bar, opening, closing, postfix, Is, AreMarks}
use Rattle.patex_grammar.specs.Bounds.{least_of, most_of}
use Rattle.patex_grammar.proofs.BoundLemmas.{repeat-bounds}

-- the mark that the token is, if it is one
abbrev mark_of_sign : ℕ → Mark Use
mark_of_sign b =
    if b == circumflex then caret else if b == equals_sign then equals else if b == full_stop then dot else if b == exclamation_mark then bang else if b == vertical_bar then bar
    else if b == open_round then opening round else if b == open_square then opening square else if b == close_round then closing round else if b == close_square then closing square
    else if b == asterisk then postfix 0 None else if b == plus_sign then postfix 1 None else postfix 0 (Some 1)

abbrev mark_at : ℕ → Token → Mark Use
mark_at k (name text) = name_of (record { column = k; name = text })
mark_at k (sign b) = mark_of_sign b
mark_at k (repeat between) = postfix (least_of between) (most_of between)
mark_at k (open_repeat behind) = bar

abbrev mark_of : Placed → Mark Use
mark_of placed = mark_at placed.column placed.token

postfix-mark : (k : ℕ) (token : Token) (least : ℕ) (most : Option ℕ) → IsPostfix token least most → mark_at k token ≡ postfix least most
postfix-mark k (name text) least most is = absurd is
postfix-mark k (sign b) least most (inl is) = ap mark_of_sign is.0 ∙ ap (λ n. postfix n None) (sym is.1) ∙ ap (postfix least) (sym is.2)
postfix-mark k (sign b) least most (inr (inl is)) = ap mark_of_sign is.0 ∙ ap (λ n. postfix n None) (sym is.1) ∙ ap (postfix least) (sym is.2)
postfix-mark k (sign b) least most (inr (inr is)) = ap mark_of_sign is.0 ∙ ap (λ n. postfix n (Some 1)) (sym is.1) ∙ ap (postfix least) (sym is.2)
postfix-mark k (repeat between) least most is =
    let (p, q) = repeat-bounds between least most is in
    ap (λ n. postfix n (most_of between)) p ∙ ap (postfix least) q
postfix-mark k (open_repeat behind) least most is = absurd is

mark-is : (mark : Mark Use) (placed : Placed) → Is mark placed → mark_of placed ≡ mark
mark-is (name_of u) placed is = ap mark_of is
mark-is caret placed is = ap (mark_at placed.column) is
mark-is equals placed is = ap (mark_at placed.column) is
mark-is dot placed is = ap (mark_at placed.column) is
mark-is bang placed is = ap (mark_at placed.column) is
mark-is bar placed is = ap (mark_at placed.column) is
mark-is (opening round) placed is = ap (mark_at placed.column) is
mark-is (opening square) placed is = ap (mark_at placed.column) is
mark-is (closing round) placed is = ap (mark_at placed.column) is
mark-is (closing square) placed is = ap (mark_at placed.column) is
mark-is (postfix least most) placed is = postfix-mark placed.column placed.token least most is

pub one-mark : (m n : Mark Use) (placed : Placed) → Is m placed → Is n placed → m ≡ n
one-mark m n placed is is' = sym (mark-is m placed is) ∙ mark-is n placed is'

pub same-marks : (tokens : List Placed) (marks others : List (Mark Use)) → AreMarks tokens marks → AreMarks tokens others → marks ≡ others
same-marks [] [] [] are are' = refl
same-marks [] [] (n ∷ others) are are' = absurd are'
same-marks [] (m ∷ marks) others are are' = absurd are
same-marks (t ∷ tokens) [] others are are' = absurd are
same-marks (t ∷ tokens) (m ∷ marks) [] are are' = absurd are'
same-marks (t ∷ tokens) (m ∷ marks) (n ∷ others) are are' =
    ap (λ x. x ∷ marks) (one-mark m n t are.0 are'.0) ∙ ap (λ xs. n ∷ xs) (same-marks tokens marks others are.1 are'.1)
