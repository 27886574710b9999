-- What the machine's state says of the tokens that it has read.
use Rattle.std.specs.Prelude.{◌≡◌, ℕ, Option, Some, None, List, [], ◌∷◌, ◌++◌}
use Rattle.mine_model.specs.Bytes.{exclamation_mark, equals_sign, full_stop, circumflex, vertical_bar}
use Rattle.mine_model.specs.Tokens.{sign, Placed}
use Rattle.mine_model.specs.Grammar.{Use, expression, concatenation, repetition, at, named, Reads}
use Rattle.mine_model.specs.Expression.{Leaf, under, exact, climb, forced, not_under, not_exact, any, any_climb, Tree}
use Rattle.patex_grammar.specs.Machine.{Mark, opening, Is, AreMarks, Last, nothing, excluding, extendable, closed, Frame, frame, State, state, finished, run, initial}

-- the tokens spell the leaf
abbrev pub IsLeaf : Leaf Use → List Placed → Type 0
IsLeaf (under u) tokens = tokens ≡ named u ∷ []
IsLeaf (exact u) tokens = (k : ℕ) × (tokens ≡ named u ∷ at k (sign equals_sign) ∷ [])
IsLeaf (climb u) tokens = (k : ℕ) × (tokens ≡ named u ∷ at k (sign circumflex) ∷ [])
IsLeaf (forced u) tokens =
    (j k : ℕ) × (tokens ≡ named u ∷ at j (sign circumflex) ∷ at k (sign equals_sign) ∷ [])
IsLeaf (not_under u) tokens = (j : ℕ) × (tokens ≡ at j (sign exclamation_mark) ∷ named u ∷ [])
IsLeaf (not_exact u) tokens =
    (j k : ℕ) × (tokens ≡ at j (sign exclamation_mark) ∷ named u ∷ at k (sign equals_sign) ∷ [])
IsLeaf any tokens = (j : ℕ) × (tokens ≡ at j (sign full_stop) ∷ [])
IsLeaf any_climb tokens = (j k : ℕ) × (tokens ≡ at j (sign full_stop) ∷ at k (sign circumflex) ∷ [])

abbrev pub IsLast : Last Use → List Placed → Type 0
IsLast nothing tokens = tokens ≡ []
IsLast excluding tokens = (j : ℕ) × (tokens ≡ at j (sign exclamation_mark) ∷ [])
IsLast (extendable l) tokens = IsLeaf l tokens
IsLast (closed t) tokens = Reads repetition tokens t

abbrev pub IsRowBefore : Option (Tree Use) → List Placed → Type 0
IsRowBefore None tokens = tokens ≡ []
IsRowBefore (Some t) tokens = Reads concatenation tokens t

abbrev pub IsChoiceBefore : Option (Tree Use) → List Placed → Type 0
IsChoiceBefore None tokens = tokens ≡ []
IsChoiceBefore (Some t) tokens =
    (before : List Placed) × (k : ℕ) × (tokens ≡ before ++ at k (sign vertical_bar) ∷ [])
    × Reads expression before t

abbrev pub IsStack : List (Frame Use) → List Placed → Type 0
IsStack [] tokens = tokens ≡ []
IsStack (frame bracket choice row ∷ stack) tokens =
    (a b c : List Placed) × (token : Placed) × (tokens ≡ a ++ (b ++ (c ++ token ∷ [])))
    × IsStack stack a × IsChoiceBefore choice b × IsRowBefore row c × Is (opening bracket) token

-- the state is what the machine has of these tokens
abbrev pub Holds : State Use → List Placed → Type 0
Holds (state stack choice row last) tokens =
    (a b c d : List Placed) × (tokens ≡ a ++ (b ++ (c ++ d)))
    × IsStack stack a × IsChoiceBefore choice b × IsRowBefore row c × IsLast last d

-- the machine reads the tokens, up to this state
abbrev pub Reaches : List Placed → State Use → Type 0
Reaches tokens s = (marks : List (Mark Use)) × AreMarks tokens marks × (run (Some initial) marks ≡ Some s)

-- the machine reads the tokens, leaves no bracket open and answers the tree
abbrev pub IsAnswered : List Placed → Tree Use → Type 0
IsAnswered tokens t =
    (choice row : Option (Tree Use)) × (last : Last Use)
    × Reaches tokens (state [] choice row last) × (finished choice row last ≡ Some t)
