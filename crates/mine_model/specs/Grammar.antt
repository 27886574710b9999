-- How tokens read as an expression. Of the DESQ article, in this program's own spelling.
use Rattle.std.specs.Prelude.{◌≡◌, ℕ, ◌+◌, ◌*◌, ◌-◌, true, ◌⊎◌, ◌≢◌, List, [], ◌∷◌, ◌++◌, Option, Some, None}
use Rattle.std.specs.List.{fold}
use Rattle.mine_model.specs.Bytes.{exclamation_mark, open_round, close_round, asterisk, plus_sign, comma, full_stop, digit_zero, equals_sign, question_mark, open_square, close_square, circumflex, vertical_bar}
use Rattle.mine_model.specs.Expression.{under, exact, climb, forced, any, any_climb, not_under, not_exact, Tree, leaf, cat, alt, rep, cap}
use Rattle.mine_model.specs.Tokens.{Token, name, sign, repeat, Placed, AreTokens, Each, is_free}
use Rattle.std.specs.Char.{is_ascii_digit}

-- a name of an expression where it stands
pub record Use : Type 0 where
  pub column : ℕ
  pub name : List ℕ

-- the token at the column
abbrev pub at : ℕ → Token → Placed
at k token = record { column = k; token = token }

-- the name where it stands
abbrev pub named : Use → Placed
named u = at u.column (name u.name)

-- the value of decimal digits
abbrev pub value_of_digits : List ℕ → ℕ
value_of_digits digits = fold (λ value digit. value * 10 + (digit - digit_zero)) 0 digits

-- one or more decimal digits of n
abbrev pub IsDecimal : List ℕ → ℕ → Type 0
IsDecimal digits n = Each is_ascii_digit true digits × (digits ≢ []) × (value_of_digits digits ≡ n)

-- digits of n, with free bytes round them
abbrev pub IsPadded : List ℕ → ℕ → Type 0
IsPadded bytes n =
    (before : List ℕ) × (digits : List ℕ) × (after : List ℕ) × (bytes ≡ before ++ digits ++ after)
    × Each is_free true before × Each is_free true after × IsDecimal digits n

-- the bounds that stand between the braces of a repeat: n, or n and a comma, or a comma and m, or all three
abbrev pub IsRepeat : List ℕ → ℕ → Option ℕ → Type 0
IsRepeat between least most = (IsPadded between least × (most ≡ Some least))
    ⊎ ((left right : List ℕ) × (between ≡ left ++ comma ∷ right)
    × ((IsPadded left least × Each is_free true right × (most ≡ None))
    ⊎ (Each is_free true left × (least ≡ 0) × (m : ℕ) × IsPadded right m × (most ≡ Some m))
    ⊎ (IsPadded left least × (m : ℕ) × IsPadded right m × (most ≡ Some m))))

-- the token is a postfix sign with these bounds: * + ? or a repeat
abbrev pub IsPostfix : Token → ℕ → Option ℕ → Type 0
IsPostfix (sign b) least most = ((b ≡ asterisk) × (least ≡ 0) × (most ≡ None))
    ⊎ ((b ≡ plus_sign) × (least ≡ 1) × (most ≡ None)) ⊎ ((b ≡ question_mark) × (least ≡ 0) × (most ≡ Some 1))
IsPostfix (repeat between) least most = IsRepeat between least most
IsPostfix _ least most = ⊥

-- the parts of the grammar, the widest first
pub data Part : Type 0 where
  expression : Part
  concatenation : Part
  repetition : Part
  atom : Part
  item : Part

-- The tokens read as the tree, as this part of the grammar.
pub data Reads : Part → List Placed → Tree Use → Type 0 where
  as_concatenation : {tokens : List Placed} {tree : Tree Use}
      → Reads concatenation tokens tree → Reads expression tokens tree
  alternation : {tokens : List Placed} {tree : Tree Use} (before : List Placed) (k : ℕ) (after : List Placed)
      (left right : Tree Use) → tokens ≡ before ++ at k (sign vertical_bar) ∷ after → tree ≡ alt left right
      → Reads expression before left → Reads concatenation after right → Reads expression tokens tree
  as_repetition : {tokens : List Placed} {tree : Tree Use}
      → Reads repetition tokens tree → Reads concatenation tokens tree
  in_a_row : {tokens : List Placed} {tree : Tree Use} (before after : List Placed) (left right : Tree Use)
      → tokens ≡ before ++ after → tree ≡ cat left right
      → Reads concatenation before left → Reads repetition after right → Reads concatenation tokens tree
  as_atom : {tokens : List Placed} {tree : Tree Use} → Reads atom tokens tree → Reads repetition tokens tree
  repeated : {tokens : List Placed} {tree : Tree Use} (before : List Placed) (postfix : Placed)
      (inner : Tree Use) (least : ℕ) (most : Option ℕ) → tokens ≡ before ++ postfix ∷ []
      → tree ≡ rep inner least most → Reads repetition before inner → IsPostfix postfix.token least most
      → Reads repetition tokens tree
  as_item : {tokens : List Placed} {tree : Tree Use} → Reads item tokens tree → Reads atom tokens tree
  capture : {tokens : List Placed} {tree : Tree Use} (j : ℕ) (between : List Placed) (k : ℕ)
      (inner : Tree Use) → tokens ≡ at j (sign open_round) ∷ between ++ at k (sign close_round) ∷ []
      → tree ≡ cap inner → Reads expression between inner → Reads atom tokens tree
  group : {tokens : List Placed} {tree : Tree Use} (j : ℕ) (between : List Placed) (k : ℕ)
      → tokens ≡ at j (sign open_square) ∷ between ++ at k (sign close_square) ∷ []
      → Reads expression between tree → Reads atom tokens tree
  as_under : {tokens : List Placed} {tree : Tree Use} (u : Use)
      → tokens ≡ named u ∷ [] → tree ≡ leaf (under u) → Reads item tokens tree
  as_exact : {tokens : List Placed} {tree : Tree Use} (u : Use) (k : ℕ)
      → tokens ≡ named u ∷ at k (sign equals_sign) ∷ [] → tree ≡ leaf (exact u) → Reads item tokens tree
  as_climb : {tokens : List Placed} {tree : Tree Use} (u : Use) (k : ℕ)
      → tokens ≡ named u ∷ at k (sign circumflex) ∷ [] → tree ≡ leaf (climb u) → Reads item tokens tree
  as_forced : {tokens : List Placed} {tree : Tree Use} (u : Use) (j k : ℕ)
      → tokens ≡ named u ∷ at j (sign circumflex) ∷ at k (sign equals_sign) ∷ [] → tree ≡ leaf (forced u)
      → Reads item tokens tree
  as_any : {tokens : List Placed} {tree : Tree Use} (j : ℕ)
      → tokens ≡ at j (sign full_stop) ∷ [] → tree ≡ leaf any → Reads item tokens tree
  as_any_climb : {tokens : List Placed} {tree : Tree Use} (j k : ℕ)
      → tokens ≡ at j (sign full_stop) ∷ at k (sign circumflex) ∷ [] → tree ≡ leaf any_climb
      → Reads item tokens tree
  as_not_under : {tokens : List Placed} {tree : Tree Use} (j : ℕ) (u : Use)
      → tokens ≡ at j (sign exclamation_mark) ∷ named u ∷ [] → tree ≡ leaf (not_under u)
      → Reads item tokens tree
  as_not_exact : {tokens : List Placed} {tree : Tree Use} (j : ℕ) (u : Use) (k : ℕ)
      → tokens ≡ at j (sign exclamation_mark) ∷ named u ∷ at k (sign equals_sign) ∷ []
      → tree ≡ leaf (not_exact u) → Reads item tokens tree

-- some continuation of the tokens reads as an expression
abbrev pub Begins : List Placed → Type 0
Begins tokens = (more : List Placed) × (tree : Tree Use) × Reads expression (tokens ++ more) tree

-- the text reads as this tree
abbrev pub ReadsAs : List ℕ → Tree Use → Type 0
ReadsAs text tree = (tokens : List Placed) × AreTokens text tokens × Reads expression tokens tree
