-- What is refused of an expression and of the files, and which refusal comes first. This program's own.
use Rattle.std.specs.Prelude.{◌≡◌, ◌≢◌, ℕ, ◌+◌, ◌≤◌, ◌<◌, min, ◌⊎◌, Bool, true, false, List, [], ◌∷◌, ◌++◌, map, length, All, AllPairs, Contains, Option, Some}
use Rattle.std.specs.List.{flat_map}
use Rattle.mine_model.specs.declared.fault.Fault.{Fault}
use Rattle.mine_model.specs.declared.fault.Fault.TheVariants.{BadToken, BadRepeat, Unexpected, Unknown, BadByte, BadWeight, Cycle, ExprTooLong, RepeatLimit, TooDeep, TooManyLeaves, TooLarge, NameTooLong, TooManyItems, TooManyAncestors, TooManySequences, SequenceTooLong}
use Rattle.mine_model.specs.declared.fault.Which.{Which}
use Rattle.mine_model.specs.declared.fault.Which.TheVariants.{Hierarchy, Sequences}
use Rattle.mine_model.specs.Bytes.{open_round, close_round, open_square, close_square, asterisk, plus_sign, question_mark}
use Rattle.mine_model.specs.Limits.{most_file_bytes, most_items, most_ancestors, most_sequences, most_length, most_weight, most_expression_bytes, most_times, most_leaves, most_told_leaves, most_nested}
use Rattle.mine_model.specs.Hierarchy.{Link, PlacedLink, IsCycleLine, HasMoreAncestors}
use Rattle.mine_model.specs.Text.{lines_of, fields_of, placed_fields_of, Field, bad_byte, long_name, IsFirstTextFault}
use Rattle.mine_model.specs.Expression.{Tree, unfolded_leaves}
use Rattle.mine_model.specs.Support.{Sequence}
use Rattle.mine_model.specs.Tokens.{Token, sign, repeat, open_repeat, Placed, AreTokens, IsBadToken}
use Rattle.mine_model.specs.Grammar.{Use, value_of_digits, IsDecimal, IsRepeat, expression, Reads, Begins}
use Rattle.mine_model.specs.First.{FirstOf, FirstAmong}

-- The expression

-- the token is a repeat of no right form, or its bounds, both within the limit, are the wrong way round
abbrev pub IsBadRepeat : Token → Type 0
IsBadRepeat (repeat between) = ((least : ℕ) (most : Option ℕ) → IsRepeat between least most → ⊥)
    ⊎ ((least most : ℕ) × IsRepeat between least (Some most) × (least ≤ most_times) × (most < least))
IsBadRepeat (open_repeat behind) = Unit {0}
IsBadRepeat _ = ⊥

-- the token is a repeat with a number above the limit
abbrev pub IsBeyondLimit : Token → Type 0
IsBeyondLimit (repeat between) = (least : ℕ) × (most : Option ℕ) × IsRepeat between least most
    × ((most_times < least) ⊎ ((m : ℕ) × (most ≡ Some m) × (most_times < m)))
IsBeyondLimit _ = ⊥

abbrev pub IsOpening : Token → Type 0
IsOpening token = (token ≡ sign open_round) ⊎ (token ≡ sign open_square)

abbrev pub IsClosing : Token → Type 0
IsClosing token = (token ≡ sign close_round) ⊎ (token ≡ sign close_square)

-- * + ? or a repeat
abbrev pub IsPostfixSign : Token → Type 0
IsPostfixSign (sign b) = (b ≡ asterisk) ⊎ (b ≡ plus_sign) ⊎ (b ≡ question_mark)
IsPostfixSign (repeat between) = Unit {0}
IsPostfixSign _ = ⊥

-- n brackets are open behind the tokens
pub data AreOpen : List Placed → ℕ → Type 0 where
  none : AreOpen [] 0
  one_more : {tokens : List Placed} {n : ℕ} (last : Placed) → AreOpen tokens n → IsOpening last.token
      → AreOpen (tokens ++ last ∷ []) (n + 1)
  one_less : {tokens : List Placed} {n : ℕ} (last : Placed) → AreOpen tokens (n + 1) → IsClosing last.token
      → AreOpen (tokens ++ last ∷ []) n
  as_many : {tokens : List Placed} {n : ℕ} (last : Placed) → AreOpen tokens n
      → (IsOpening last.token → ⊥) → (IsClosing last.token → ⊥) → AreOpen (tokens ++ last ∷ []) n

-- a bracket opens inside too many, or a postfix sign comes after too many in a row
abbrev pub IsTooDeepAfter : List Placed → Placed → Type 0
IsTooDeepAfter before placed = (IsOpening placed.token × (n : ℕ) × AreOpen before n × (most_nested ≤ n))
    ⊎ (IsPostfixSign placed.token × ((front signs : List Placed)
    × (before ≡ front ++ signs) × (length signs ≡ most_nested) × All (λ p. IsPostfixSign p.token) signs))

-- the column of the first token that has the property, which is told the tokens before
abbrev pub IsFirstToken : (List Placed → Placed → Type 0) → List Placed → ℕ → Type 0
IsFirstToken Has tokens column =
    FirstAmong (λ before placed at. Has before placed × (at ≡ placed.column)) [] tokens column

-- the tokens up to here begin no expression
abbrev pub IsWrongAfter : List Placed → Placed → Type 0
IsWrongAfter before placed = Begins (before ++ placed ∷ []) → ⊥

-- the first wrong token, or the end of the text where an expression is begun and not ended
abbrev pub IsUnexpected : List ℕ → List Placed → ℕ → Type 0
IsUnexpected text tokens column = IsFirstToken IsWrongAfter tokens column
    ⊎ (Begins tokens × ((tree : Tree Use) → Reads expression tokens tree → ⊥) × (column ≡ length text + 1))

-- The kinds of refusals of an expression

abbrev pub IsTooLong : List ℕ → Fault → Type 0
IsTooLong text fault = (most_expression_bytes < length text) × (fault ≡ ExprTooLong)

abbrev pub HasBadToken : List ℕ → Fault → Type 0
HasBadToken text fault = (column : ℕ) × IsBadToken text column × (fault ≡ BadToken column)

-- the tokens of the text have the property at a column, which a fault of this kind names
abbrev pub IsOfTokens : List ℕ → (List Placed → ℕ → Type 0) → (ℕ → Fault) → Fault → Type 0
IsOfTokens text Has kind fault =
    (tokens : List Placed) × (column : ℕ) × AreTokens text tokens × Has tokens column × (fault ≡ kind column)

abbrev pub HasBadRepeat : List ℕ → Fault → Type 0
HasBadRepeat text = IsOfTokens text (IsFirstToken (λ before placed. IsBadRepeat placed.token)) BadRepeat

abbrev pub HasRepeatOverLimit : List ℕ → Fault → Type 0
HasRepeatOverLimit text =
    IsOfTokens text (IsFirstToken (λ before placed. IsBeyondLimit placed.token)) RepeatLimit

abbrev pub HasUnexpected : List ℕ → Fault → Type 0
HasUnexpected text = IsOfTokens text (IsUnexpected text) Unexpected

abbrev pub IsTooDeep : List ℕ → Fault → Type 0
IsTooDeep text = IsOfTokens text (IsFirstToken IsTooDeepAfter) TooDeep

abbrev pub HasTooManyLeaves : List ℕ → Fault → Type 0
HasTooManyLeaves text fault = (tokens : List Placed) × (tree : Tree Use) × AreTokens text tokens
    × Reads expression tokens tree × (most_leaves < unfolded_leaves tree)
    × (fault ≡ TooManyLeaves (min (unfolded_leaves tree) most_told_leaves))

-- The first refusal of an expression. The kind decides, and within a kind the place.
abbrev pub IsExpressionRefusal : List ℕ → Fault → Type 0
IsExpressionRefusal text = FirstOf (IsTooLong text) (FirstOf (HasBadToken text)
    (FirstOf (HasBadRepeat text) (FirstOf (HasRepeatOverLimit text) (FirstOf (HasUnexpected text)
    (FirstOf (IsTooDeep text) (HasTooManyLeaves text))))))

-- A name of the expression that stands in neither file: the first use of one.
abbrev pub IsUnknown : List (List ℕ) → List Use → Fault → Type 0
IsUnknown known uses =
    FirstAmong (λ before u fault. (Contains known u.name → ⊥) × (fault ≡ Unknown u.column)) [] uses

-- The files

abbrev pub IsTooLarge : Which → List ℕ → Fault → Type 0
IsTooLarge file bytes fault = (most_file_bytes < length bytes) × (fault ≡ TooLarge file)

-- the fault of the text of the line with this number that comes first
abbrev pub IsTextRefusal : Which → ℕ → List ℕ → Fault → Type 0
IsTextRefusal file line text fault = (column : ℕ)
    × ((IsFirstTextFault text bad_byte column × (fault ≡ BadByte file line column))
    ⊎ (IsFirstTextFault text long_name column × (fault ≡ NameTooLong file line column)))

-- among the names more than so many are different
abbrev pub HasMoreNames : ℕ → List (List ℕ) → Type 0
HasMoreNames n names = (some : List (List ℕ)) × AllPairs (λ a b. a ≢ b) some
    × All (λ a. Contains names a) some × (n < length some)

-- The hierarchy file

-- the names of lines
abbrev pub names_of : List (List ℕ) → List (List ℕ)
names_of lines = flat_map fields_of lines

-- the first field of a line stands below each other one
abbrev pub links_of_line : ℕ → List (List ℕ) → List (PlacedLink (List ℕ))
links_of_line line [] = []
links_of_line line (child ∷ parents) =
    map (λ parent. record { link = record { child = child; parent = parent }; line = line }) parents

-- the links of lines, the first of which has this number
abbrev pub links_from : ℕ → List (List ℕ) → List (PlacedLink (List ℕ))
links_from line [] = []
links_from line (text ∷ lines) = links_of_line line (fields_of text) ++ links_from (line + 1) lines

abbrev pub placed_links_of : List (List ℕ) → List (PlacedLink (List ℕ))
placed_links_of lines = links_from 1 lines

-- the links of a hierarchy file
abbrev pub links_of : List ℕ → List (Link (List ℕ))
links_of bytes = map (λ placed. placed.link) (placed_links_of (lines_of bytes))

abbrev pub IsHierarchyLineRefusal : List (List ℕ) → List ℕ → Fault → Type 0
IsHierarchyLineRefusal before text = FirstOf (IsTextRefusal Hierarchy (length before + 1) text)
    (λ fault. HasMoreNames most_items (names_of (before ++ text ∷ []))
    × (fault ≡ TooManyItems Hierarchy (length before + 1)))

-- the first refusal of the hierarchy file
abbrev pub IsHierarchyRefusal : List ℕ → Fault → Type 0
IsHierarchyRefusal bytes = FirstOf (IsTooLarge Hierarchy bytes)
    (FirstOf (FirstAmong IsHierarchyLineRefusal [] (lines_of bytes))
    (FirstOf (λ fault. (n : ℕ) × IsCycleLine (placed_links_of (lines_of bytes)) n × (fault ≡ Cycle n))
    (λ fault. HasMoreAncestors most_ancestors (links_of bytes) (λ t. Contains (names_of (lines_of bytes)) t)
    × (fault ≡ TooManyAncestors))))

-- The sequence file

-- digits of a weight
abbrev pub IsWeight : List ℕ → Type 0
IsWeight digits = (n : ℕ) × IsDecimal digits n × (1 ≤ n) × (n ≤ most_weight)

-- the sequence that the fields say: where lines have weights, the first field is the weight and no item
abbrev pub sequence_of : Bool → List (List ℕ) → Sequence (List ℕ)
sequence_of false fields = record { items = fields; weight = 1 }
sequence_of true [] = record { items = []; weight = 0 }
sequence_of true (digits ∷ items) = record { items = items; weight = value_of_digits digits }

abbrev pub sequences_of_lines : Bool → List (List ℕ) → List (Sequence (List ℕ))
sequences_of_lines weighted lines = map (λ line. sequence_of weighted (fields_of line)) lines

-- the sequences of a sequence file
abbrev pub sequences_of : Bool → List ℕ → List (Sequence (List ℕ))
sequences_of weighted bytes = sequences_of_lines weighted (lines_of bytes)

-- the names of the items of sequences
abbrev pub items_of : List (Sequence (List ℕ)) → List (List ℕ)
items_of sequences = flat_map (λ sequence. sequence.items) sequences

-- where lines have weights, the line has none at this column
abbrev pub IsBadWeight : Bool → List Field → ℕ → Type 0
IsBadWeight false fields column = ⊥
IsBadWeight true [] column = column ≡ 1
IsBadWeight true (field ∷ fields) column = (IsWeight field.text → ⊥) × (column ≡ field.column)

-- the line is refused, where these names are known from the hierarchy file
abbrev pub IsSequenceLineRefusal : Bool → List (List ℕ) → List (List ℕ) → List ℕ → Fault → Type 0
IsSequenceLineRefusal weighted known before text = FirstOf (IsTextRefusal Sequences (length before + 1) text)
    (FirstOf (λ fault. (most_sequences ≤ length before) × (fault ≡ TooManySequences (length before + 1)))
    (FirstOf (λ fault. (column : ℕ) × IsBadWeight weighted (placed_fields_of text) column
    × (fault ≡ BadWeight (length before + 1) column))
    (FirstOf (λ fault. (most_length < length (sequence_of weighted (fields_of text)).items)
    × (fault ≡ SequenceTooLong (length before + 1)))
    (λ fault. HasMoreNames most_items (known ++ items_of (sequences_of_lines weighted (before ++ text ∷ [])))
    × (fault ≡ TooManyItems Sequences (length before + 1))))))

-- the first refusal of the sequence file
abbrev pub IsSequencesRefusal : Bool → List (List ℕ) → List ℕ → Fault → Type 0
IsSequencesRefusal weighted known bytes = FirstOf (IsTooLarge Sequences bytes)
    (FirstAmong (IsSequenceLineRefusal weighted known) [] (lines_of bytes))
