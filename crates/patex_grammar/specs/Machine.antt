-- A machine that reads an expression from left to right, a token at a time.
use Rattle.std.specs.Prelude.{◌≡◌, ℕ, Option, Some, None, List, [], ◌∷◌}
use Rattle.mine_model.specs.Bytes.{exclamation_mark, open_round, close_round, equals_sign, full_stop, open_square, close_square, circumflex, vertical_bar}
use Rattle.mine_model.specs.Tokens.{sign, Placed}
use Rattle.mine_model.specs.Grammar.{Use, IsPostfix, named}
use Rattle.mine_model.specs.Expression.{Leaf, under, exact, climb, forced, not_under, not_exact, any, any_climb, Tree, leaf, cat, alt, rep, cap}

pub data Bracket : Type 0 where
  round : Bracket
  square : Bracket

-- what a token is to the grammar
pub data Mark (A : Type 0) : Type 0 where
  name_of : A → Mark A
  caret : Mark A
  equals : Mark A
  dot : Mark A
  bang : Mark A
  bar : Mark A
  opening : Bracket → Mark A
  closing : Bracket → Mark A
  postfix : ℕ → Option ℕ → Mark A

abbrev pub Is : Mark Use → Placed → Type 0
Is (name_of u) placed = placed ≡ named u
Is caret placed = placed.token ≡ sign circumflex
Is equals placed = placed.token ≡ sign equals_sign
Is dot placed = placed.token ≡ sign full_stop
Is bang placed = placed.token ≡ sign exclamation_mark
Is bar placed = placed.token ≡ sign vertical_bar
Is (opening round) placed = placed.token ≡ sign open_round
Is (opening square) placed = placed.token ≡ sign open_square
Is (closing round) placed = placed.token ≡ sign close_round
Is (closing square) placed = placed.token ≡ sign close_square
Is (postfix least most) placed = IsPostfix placed.token least most

-- the tokens are these marks
abbrev pub AreMarks : List Placed → List (Mark Use) → Type 0
AreMarks [] [] = Unit {0}
AreMarks [] (mark ∷ marks) = ⊥
AreMarks (token ∷ tokens) [] = ⊥
AreMarks (token ∷ tokens) (mark ∷ marks) = Is mark token × AreMarks tokens marks

-- the operand that was read last
pub data Last (A : Type 0) : Type 0 where
  nothing : Last A  -- an operand must come
  excluding : Last A  -- a name must come, behind !
  extendable : Leaf A → Last A  -- an item, which ^ and = may extend
  closed : Tree A → Last A

-- an open bracket, with the choice and the row before it
pub data Frame (A : Type 0) : Type 0 where
  frame : Bracket → Option (Tree A) → Option (Tree A) → Frame A

-- the open brackets, the innermost first; and since the innermost: what stands before the last bar,
-- what stands behind it in a row before the last operand, and the last operand
pub data State (A : Type 0) : Type 0 where
  state : List (Frame A) → Option (Tree A) → Option (Tree A) → Last A → State A

abbrev pub row_with : {A : Type 0} → Option (Tree A) → Tree A → Tree A
row_with None right = right
row_with (Some left) right = cat left right

abbrev pub choice_with : {A : Type 0} → Option (Tree A) → Tree A → Tree A
choice_with None right = right
choice_with (Some left) right = alt left right

abbrev pub tree_of_last : {A : Type 0} → Last A → Option (Tree A)
tree_of_last nothing = None
tree_of_last excluding = None
tree_of_last (extendable l) = Some (leaf l)
tree_of_last (closed t) = Some t

-- the row once one more operand begins
abbrev pub begun : {A : Type 0} → Option (Tree A) → Last A → Option (Option (Tree A))
begun row nothing = Some row
begun row excluding = None
begun row (extendable l) = Some (Some (row_with row (leaf l)))
begun row (closed t) = Some (Some (row_with row t))

-- the row as it ends
abbrev pub ended : {A : Type 0} → Option (Tree A) → Option (Tree A) → Option (Tree A)
ended row None = None
ended row (Some t) = Some (row_with row t)

abbrev pub chosen : {A : Type 0} → Option (Tree A) → Option (Tree A) → Option (Tree A)
chosen choice None = None
chosen choice (Some t) = Some (choice_with choice t)

-- the tree of what stands since the innermost open bracket
abbrev pub finished : {A : Type 0} → Option (Tree A) → Option (Tree A) → Last A → Option (Tree A)
finished choice row last = chosen choice (ended row (tree_of_last last))

-- one more operand
abbrev pub with_last : {A : Type 0}
    → List (Frame A) → Option (Tree A) → Option (Option (Tree A)) → Last A → Option (State A)
with_last stack choice None last = None
with_last stack choice (Some row) last = Some (state stack choice row last)

abbrev pub with_name : {A : Type 0}
    → List (Frame A) → Option (Tree A) → Option (Tree A) → Last A → A → Option (State A)
with_name stack choice row excluding u = Some (state stack choice row (extendable (not_under u)))
with_name stack choice row nothing u = with_last stack choice (begun row nothing) (extendable (under u))
with_name stack choice row (extendable l) u =
    with_last stack choice (begun row (extendable l)) (extendable (under u))
with_name stack choice row (closed t) u = with_last stack choice (begun row (closed t)) (extendable (under u))

abbrev pub with_caret : {A : Type 0} → Last A → Option (Last A)
with_caret (extendable (under u)) = Some (extendable (climb u))
with_caret (extendable any) = Some (extendable any_climb)
with_caret last = None

abbrev pub with_equals : {A : Type 0} → Last A → Option (Last A)
with_equals (extendable (under u)) = Some (extendable (exact u))
with_equals (extendable (climb u)) = Some (extendable (forced u))
with_equals (extendable (not_under u)) = Some (extendable (not_exact u))
with_equals last = None

abbrev pub extended : {A : Type 0}
    → List (Frame A) → Option (Tree A) → Option (Tree A) → Option (Last A) → Option (State A)
extended stack choice row None = None
extended stack choice row (Some last) = Some (state stack choice row last)

abbrev pub with_bar : {A : Type 0} → List (Frame A) → Option (Tree A) → Option (State A)
with_bar stack None = None
with_bar stack (Some t) = Some (state stack (Some t) None nothing)

abbrev pub opened : {A : Type 0}
    → List (Frame A) → Option (Tree A) → Option (Option (Tree A)) → Bracket → Option (State A)
opened stack choice None bracket = None
opened stack choice (Some row) bracket = Some (state (frame bracket choice row ∷ stack) None None nothing)

abbrev pub shut : {A : Type 0} → List (Frame A) → Option (Tree A) → Bracket → Option (State A)
shut stack None bracket = None
shut [] (Some t) bracket = None
shut (frame round choice row ∷ stack) (Some t) round = Some (state stack choice row (closed (cap t)))
shut (frame square choice row ∷ stack) (Some t) square = Some (state stack choice row (closed t))
shut (frame round choice row ∷ stack) (Some t) square = None
shut (frame square choice row ∷ stack) (Some t) round = None

abbrev pub repeating : {A : Type 0}
    → List (Frame A) → Option (Tree A) → Option (Tree A) → Option (Tree A) → ℕ → Option ℕ → Option (State A)
repeating stack choice row None least most = None
repeating stack choice row (Some t) least most = Some (state stack choice row (closed (rep t least most)))

-- the state behind one more token
abbrev pub next : {A : Type 0} → State A → Mark A → Option (State A)
next (state stack choice row last) (name_of u) = with_name stack choice row last u
next (state stack choice row last) caret = extended stack choice row (with_caret last)
next (state stack choice row last) equals = extended stack choice row (with_equals last)
next (state stack choice row last) dot = with_last stack choice (begun row last) (extendable any)
next (state stack choice row last) bang = with_last stack choice (begun row last) excluding
next (state stack choice row last) bar = with_bar stack (finished choice row last)
next (state stack choice row last) (opening bracket) = opened stack choice (begun row last) bracket
next (state stack choice row last) (closing bracket) = shut stack (finished choice row last) bracket
next (state stack choice row last) (postfix least most) =
    repeating stack choice row (tree_of_last last) least most

abbrev pub step : {A : Type 0} → Option (State A) → Mark A → Option (State A)
step None mark = None
step (Some s) mark = next s mark

abbrev pub run : {A : Type 0} → Option (State A) → List (Mark A) → Option (State A)
run s [] = s
run s (mark ∷ marks) = run (step s mark) marks

abbrev pub initial : {A : Type 0} → State A
initial = state [] None None nothing

-- the tree of a whole expression, where no bracket is open
abbrev pub answer : {A : Type 0} → State A → Option (Tree A)
answer (state stack choice row last) = finished choice row last
