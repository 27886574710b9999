-- What reads as a part of the grammar is what the machine reads.
use Rattle.std.proofs.Common.{◌≡◌, ℕ, Option, Some, None, List, [], ◌∷◌, ◌++◌, refl, sym, ap, ◌∙◌, subst}
use Rattle.mine_model.specs.Bytes.{exclamation_mark, open_round, close_round, equals_sign, full_stop, open_square, close_square, circumflex, vertical_bar}
use Rattle.mine_model.specs.Tokens.{sign, Placed}
use Rattle.mine_model.specs.Grammar.{Part, expression, concatenation, repetition, atom, item, Use, at, named, Reads, as_concatenation, alternation, as_repetition, in_a_row, as_atom, repeated, as_item, capture, group, as_under, as_exact, as_climb, as_forced, as_not_under, as_not_exact, as_any, as_any_climb}
use Rattle.mine_model.specs.Expression.{Leaf, under, exact, climb, forced, not_under, not_exact, any, any_climb, Tree, leaf, cat, alt, rep, cap}
use Rattle.patex_grammar.specs.Machine.{round, square, Mark, name_of, caret, equals, dot, bang, bar, opening, closing, postfix, AreMarks, Last, nothing, excluding, extendable, closed, Frame, frame, State, state, tree_of_last, begun, ended, chosen, finished, with_last, with_name, with_bar, opened, shut, repeating, step, run}

pub run-append : {A : Type 0} (s : Option (State A)) (first second : List (Mark A)) → run s (first ++ second) ≡ run (run s first) second
run-append s [] second = refl
run-append s (mark ∷ first) second = run-append (step s mark) first second

pub marks-append : (tokens more : List Placed) (marks others : List (Mark Use)) → AreMarks tokens marks → AreMarks more others → AreMarks (tokens ++ more) (marks ++ others)
marks-append [] more [] others first second = second
marks-append [] more (m ∷ marks) others first second = absurd first
marks-append (t ∷ tokens) more [] others first second = absurd first
marks-append (t ∷ tokens) more (m ∷ marks) others first second = (first.0, marks-append tokens more marks others first.1 second)

-- the last operand is the tree
pub ended-begun : (row : Option (Tree Use)) (last : Last Use) (t : Tree Use) → ended row (tree_of_last last) ≡ Some t → begun row last ≡ Some (Some t)
ended-begun row nothing t same = cc
ended-begun row excluding t same = cc
ended-begun row (extendable l) t same = ap Some same
ended-begun row (closed u) t same = ap Some same

-- an operand: read behind any operand before it, it becomes the last one
abbrev pub IsOperand : List (Mark Use) → Tree Use → Type 0
IsOperand marks t =
    (stack : List (Frame Use)) (choice row row' : Option (Tree Use)) (last : Last Use) → begun row last ≡ Some row'
    → (last' : Last Use) × (run (Some (state stack choice row last)) marks ≡ Some (state stack choice row' last')) × (tree_of_last last' ≡ Some t)

abbrev pub IsRow : List (Mark Use) → Tree Use → Type 0
IsRow marks t =
    (stack : List (Frame Use)) (choice : Option (Tree Use))
    → (row : Option (Tree Use)) × (last : Last Use) × (run (Some (state stack choice None nothing)) marks ≡ Some (state stack choice row last))
    × (ended row (tree_of_last last) ≡ Some t)

abbrev pub IsWhole : List (Mark Use) → Tree Use → Type 0
IsWhole marks t =
    (stack : List (Frame Use))
    → (choice row : Option (Tree Use)) × (last : Last Use) × (run (Some (state stack None None nothing)) marks ≡ Some (state stack choice row last))
    × (finished choice row last ≡ Some t)

-- what the machine does with the marks of a part
abbrev pub Means : Part → List (Mark Use) → Tree Use → Type 0
Means expression marks t = IsWhole marks t
Means concatenation marks t = IsRow marks t
Means repetition marks t = IsOperand marks t
Means atom marks t = IsOperand marks t
Means item marks t = IsOperand marks t

row-whole : (marks : List (Mark Use)) (t : Tree Use) → IsRow marks t → IsWhole marks t
row-whole marks t is stack =
    let (row, last, ran, end) = is stack None in
    (None, row, last, ran, ap (chosen None) end)

bar-whole : (first second : List (Mark Use)) (left right : Tree Use) → IsWhole first left → IsRow second right → IsWhole (first ++ bar ∷ second) (alt left right)
bar-whole first second left right is_first is_second stack =
    let (choice, row, last, ran, end) = is_first stack in
    let (row', last', ran', end') = is_second stack (Some left) in (
      Some left,
      row',
      last',
      run-append (Some (state stack None None nothing)) first (bar ∷ second) ∙ ap (λ s. run s (bar ∷ second)) ran ∙ ap (λ t. run (with_bar stack t) second) end ∙ ran',
      ap (chosen (Some left)) end',
    )

operand-row : (marks : List (Mark Use)) (t : Tree Use) → IsOperand marks t → IsRow marks t
operand-row marks t is stack choice =
    let (last, ran, end) = is stack choice None None nothing refl in
    (None, last, ran, ap (ended None) end)

join-row : (first second : List (Mark Use)) (left right : Tree Use) → IsRow first left → IsOperand second right → IsRow (first ++ second) (cat left right)
join-row first second left right is_first is_second stack choice =
    let (row, last, ran, end) = is_first stack choice in
    let (last', ran', end') = is_second stack choice row (Some left) last (ended-begun row last left end) in (
      Some left,
      last',
      run-append (Some (state stack choice None nothing)) first second ∙ ap (λ s. run s second) ran ∙ ran',
      ap (ended (Some left)) end',
    )

postfix-operand : (marks : List (Mark Use)) (t : Tree Use) (least : ℕ) (most : Option ℕ) → IsOperand marks t → IsOperand (marks ++ postfix least most ∷ []) (rep t least most)
postfix-operand marks t least most is stack choice row row' last begins =
    let (last', ran, end) = is stack choice row row' last begins in (
      closed (rep t least most),
      run-append (Some (state stack choice row last)) marks (postfix least most ∷ []) ∙ ap (λ s. run s (postfix least most ∷ [])) ran
          ∙ ap (λ u. repeating stack choice row' u least most) end,
      refl,
    )

capture-operand : (marks : List (Mark Use)) (t : Tree Use) → IsWhole marks t → IsOperand (opening round ∷ marks ++ closing round ∷ []) (cap t)
capture-operand marks t is stack choice row row' last begins =
    let (choice2, row2, last2, ran, end) = is (frame round choice row' ∷ stack) in (
      closed (cap t),
      ap (λ r. run (opened stack choice r round) (marks ++ closing round ∷ [])) begins
          ∙ run-append (Some (state (frame round choice row' ∷ stack) None None nothing)) marks (closing round ∷ [])
          ∙ ap (λ s. run s (closing round ∷ [])) ran
          ∙ ap (λ u. shut (frame round choice row' ∷ stack) u round) end,
      refl,
    )

group-operand : (marks : List (Mark Use)) (t : Tree Use) → IsWhole marks t → IsOperand (opening square ∷ marks ++ closing square ∷ []) t
group-operand marks t is stack choice row row' last begins =
    let (choice2, row2, last2, ran, end) = is (frame square choice row' ∷ stack) in (
      closed t,
      ap (λ r. run (opened stack choice r square) (marks ++ closing square ∷ [])) begins
          ∙ run-append (Some (state (frame square choice row' ∷ stack) None None nothing)) marks (closing square ∷ [])
          ∙ ap (λ s. run s (closing square ∷ [])) ran
          ∙ ap (λ u. shut (frame square choice row' ∷ stack) u square) end,
      refl,
    )

-- a name begins an operand
name-begins : (stack : List (Frame Use)) (choice row row' : Option (Tree Use)) (last : Last Use) (u : Use) → begun row last ≡ Some row'
    → with_name stack choice row last u ≡ Some (state stack choice row' (extendable (under u)))
name-begins stack choice row row' nothing u begins = ap (λ r. with_last stack choice r (extendable (under u))) begins
name-begins stack choice row row' excluding u begins = cc
name-begins stack choice row row' (extendable l) u begins = ap (λ r. with_last stack choice r (extendable (under u))) begins
name-begins stack choice row row' (closed t) u begins = ap (λ r. with_last stack choice r (extendable (under u))) begins

-- further marks behind a name
behind-name : (u : Use) (marks : List (Mark Use)) (l : Leaf Use)
    → ((stack : List (Frame Use)) (choice row : Option (Tree Use)) → run (Some (state stack choice row (extendable (under u)))) marks ≡ Some (state stack choice row (extendable l)))
    → IsOperand (name_of u ∷ marks) (leaf l)
behind-name u marks l goes stack choice row row' last begins =
    (extendable l, ap (λ s. run s marks) (name-begins stack choice row row' last u begins) ∙ goes stack choice row', refl)

behind-bang : (marks : List (Mark Use)) (l : Leaf Use)
    → ((stack : List (Frame Use)) (choice row : Option (Tree Use)) → run (Some (state stack choice row excluding)) marks ≡ Some (state stack choice row (extendable l)))
    → IsOperand (bang ∷ marks) (leaf l)
behind-bang marks l goes stack choice row row' last begins =
    (extendable l, ap (λ r. run (with_last stack choice r excluding) marks) begins ∙ goes stack choice row', refl)

behind-dot : (marks : List (Mark Use)) (l : Leaf Use)
    → ((stack : List (Frame Use)) (choice row : Option (Tree Use)) → run (Some (state stack choice row (extendable any))) marks ≡ Some (state stack choice row (extendable l)))
    → IsOperand (dot ∷ marks) (leaf l)
behind-dot marks l goes stack choice row row' last begins =
    (extendable l, ap (λ r. run (with_last stack choice r (extendable any)) marks) begins ∙ goes stack choice row', refl)

-- the tokens are marks with which the machine does what the part means
abbrev pub Runs : Part → List Placed → Tree Use → Type 0
Runs part tokens t = (marks : List (Mark Use)) × AreMarks tokens marks × Means part marks t

move : (part : Part) (tokens tokens' : List Placed) (t t' : Tree Use) → tokens ≡ tokens' → t ≡ t' → Runs part tokens' t' → Runs part tokens t
move part tokens tokens' t t' p q runs = subst (λ x. Runs part x t) (sym p) (subst (Runs part tokens') (sym q) runs)

pub reads-runs : (part : Part) (tokens : List Placed) (t : Tree Use) → Reads part tokens t → Runs part tokens t
reads-runs expression tokens t (as_concatenation reads) =
    let (marks, are, is) = reads-runs concatenation tokens t reads in
    (marks, are, row-whole marks t is)
reads-runs expression tokens t (alternation before k after left right p q first second) =
    let (marks, are, is) = reads-runs expression before left first in
    let (others, are', is') = reads-runs concatenation after right second in
    move expression tokens (before ++ at k (sign vertical_bar) ∷ after) t (alt left right) p q
    (marks ++ bar ∷ others, marks-append before (at k (sign vertical_bar) ∷ after) marks (bar ∷ others) are (refl, are'), bar-whole marks others left right is is')
reads-runs concatenation tokens t (as_repetition reads) =
    let (marks, are, is) = reads-runs repetition tokens t reads in
    (marks, are, operand-row marks t is)
reads-runs concatenation tokens t (in_a_row before after left right p q first second) =
    let (marks, are, is) = reads-runs concatenation before left first in
    let (others, are', is') = reads-runs repetition after right second in
    move concatenation tokens (before ++ after) t (cat left right) p q
    (marks ++ others, marks-append before after marks others are are', join-row marks others left right is is')
reads-runs repetition tokens t (as_atom reads) = reads-runs atom tokens t reads
reads-runs repetition tokens t (repeated before sign_behind inner least most p q first is_postfix) =
    let (marks, are, is) = reads-runs repetition before inner first in
    move repetition tokens (before ++ sign_behind ∷ []) t (rep inner least most) p q
    (marks ++ postfix least most ∷ [], marks-append before (sign_behind ∷ []) marks (postfix least most ∷ []) are (is_postfix, tt), postfix-operand marks inner least most is)
reads-runs atom tokens t (as_item reads) = reads-runs item tokens t reads
reads-runs atom tokens t (capture j between k inner p q reads) =
    let (marks, are, is) = reads-runs expression between inner reads in
    move atom tokens (at j (sign open_round) ∷ between ++ at k (sign close_round) ∷ []) t (cap inner) p q
    (opening round ∷ marks ++ closing round ∷ [], (refl, marks-append between (at k (sign close_round) ∷ []) marks (closing round ∷ []) are (refl, tt)), capture-operand marks inner is)
reads-runs atom tokens t (group j between k p reads) =
    let (marks, are, is) = reads-runs expression between t reads in
    move atom tokens (at j (sign open_square) ∷ between ++ at k (sign close_square) ∷ []) t t p refl
    (opening square ∷ marks ++ closing square ∷ [], (refl, marks-append between (at k (sign close_square) ∷ []) marks (closing square ∷ []) are (refl, tt)), group-operand marks t is)
reads-runs item tokens t (as_under u p q) =
    move item tokens (named u ∷ []) t (leaf (under u)) p q
    (name_of u ∷ [], (refl, tt), behind-name u [] (under u) λ stack choice row. refl)
reads-runs item tokens t (as_exact u k p q) =
    move item tokens (named u ∷ at k (sign equals_sign) ∷ []) t (leaf (exact u)) p q
    (name_of u ∷ equals ∷ [], (refl, (refl, tt)), behind-name u (equals ∷ []) (exact u) λ stack choice row. refl)
reads-runs item tokens t (as_climb u k p q) =
    move item tokens (named u ∷ at k (sign circumflex) ∷ []) t (leaf (climb u)) p q
    (name_of u ∷ caret ∷ [], (refl, (refl, tt)), behind-name u (caret ∷ []) (climb u) λ stack choice row. refl)
reads-runs item tokens t (as_forced u j k p q) =
    move item tokens (named u ∷ at j (sign circumflex) ∷ at k (sign equals_sign) ∷ []) t (leaf (forced u)) p q
    (name_of u ∷ caret ∷ equals ∷ [], (refl, (refl, (refl, tt))), behind-name u (caret ∷ equals ∷ []) (forced u) λ stack choice row. refl)
reads-runs item tokens t (as_not_under j u p q) =
    move item tokens (at j (sign exclamation_mark) ∷ named u ∷ []) t (leaf (not_under u)) p q
    (bang ∷ name_of u ∷ [], (refl, (refl, tt)), behind-bang (name_of u ∷ []) (not_under u) λ stack choice row. refl)
reads-runs item tokens t (as_not_exact j u k p q) =
    move item tokens (at j (sign exclamation_mark) ∷ named u ∷ at k (sign equals_sign) ∷ []) t (leaf (not_exact u)) p q
    (bang ∷ name_of u ∷ equals ∷ [], (refl, (refl, (refl, tt))), behind-bang (name_of u ∷ equals ∷ []) (not_exact u) λ stack choice row. refl)
reads-runs item tokens t (as_any j p q) =
    move item tokens (at j (sign full_stop) ∷ []) t (leaf any) p q
    (dot ∷ [], (refl, tt), behind-dot [] any λ stack choice row. refl)
reads-runs item tokens t (as_any_climb j k p q) =
    move item tokens (at j (sign full_stop) ∷ at k (sign circumflex) ∷ []) t (leaf any_climb) p q
    (dot ∷ caret ∷ [], (refl, (refl, tt)), behind-dot (caret ∷ []) any_climb λ stack choice row. refl)
