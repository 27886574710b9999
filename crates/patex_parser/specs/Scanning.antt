-- What a text was read as, token by token.
use Rattle.std.specs.Prelude.{◌≡◌, ℕ, ◌+◌, ◌<◌, ◌≤◌, ◌⊎◌, List, [], ◌∷◌, ◌++◌, length, take, drop}
use Rattle.mine_model.specs.declared.item.Item.{Item}
use Rattle.patex_parser.specs.declared.patex_fault.PatexFault.{PatexFault}
use Rattle.patex_parser.specs.declared.patex_fault.PatexFault.TheVariants.{BadToken, NoMemory}
use Rattle.mine_model.specs.Bytes.{exclamation_mark, quote, open_round, close_round, full_stop, equals_sign, open_square, close_square, circumflex, vertical_bar}
use Rattle.mine_model.specs.Tokens.{Token, name, sign, Placed, is_quote, doubled, BeginsOtherwise, Spells, AreTokensBefore, AreTokens, IsBadToken}
use Rattle.mine_model.specs.Grammar.{Use, named, IsPostfix}
use Rattle.mine_model.specs.Refusal.{IsBadRepeat, IsBeyondLimit}
use Rattle.patex_parser.specs.declared.token.Bracket.TheVariants.{Round, Square}
use Rattle.patex_parser.specs.declared.token.Mark.{Mark}
use Rattle.patex_parser.specs.declared.token.Mark.TheVariants.{Name, Caret, Equals, Dot, Bang, Bar, Opening, Closing, Postfix}
use Rattle.patex_parser.specs.declared.token.Kind.{Kind}
use Rattle.patex_parser.specs.declared.token.Kind.TheVariants.{Mark as AMark, BadRepeat, BeyondLimit}
use Rattle.patex_parser.specs.declared.token.ReadToken.{ReadToken}
use Rattle.patex_parser.specs.declared.lexeme.Lexeme.{Lexeme}
use Rattle.patex_parser.specs.declared.lexeme.Lexeme.TheVariants.{Name as NameLexeme, Other}

-- a repeat of right form, with its bounds within the limit and in their order, or no repeat
abbrev pub IsSound : Token → Type 0
IsSound token = (IsBadRepeat token → ⊥) × (IsBeyondLimit token → ⊥)

-- the token is no name and has this mark
abbrev pub IsMark : Token → Mark → Type 0
IsMark token (Name item) = ⊥
IsMark token Caret = token ≡ sign circumflex
IsMark token Equals = token ≡ sign equals_sign
IsMark token Dot = token ≡ sign full_stop
IsMark token Bang = token ≡ sign exclamation_mark
IsMark token Bar = token ≡ sign vertical_bar
IsMark token (Opening Round) = token ≡ sign open_round
IsMark token (Opening Square) = token ≡ sign open_square
IsMark token (Closing Round) = token ≡ sign close_round
IsMark token (Closing Square) = token ≡ sign close_square
IsMark token (Postfix least most) = IsPostfix token least most × IsSound token

-- the token is no name and of this kind
abbrev pub IsKind : Token → Kind → Type 0
IsKind token (AMark mark) = IsMark token mark
IsKind token BadRepeat = IsBadRepeat token
IsKind token BeyondLimit = IsBeyondLimit token × (IsBadRepeat token → ⊥)

-- the bytes behind an opening quote are this name, up to its closing quote, which ends so many bytes on
abbrev pub IsQuoted : List ℕ → List ℕ → ℕ → Type 0
IsQuoted inner text count =
    (count ≤ length inner) × (take count inner ≡ doubled text ++ quote ∷ [])
    × BeginsOtherwise is_quote (drop count inner)

-- no quote closes the name that begins with these bytes
abbrev pub IsUnclosed : List ℕ → Type 0
IsUnclosed inner =
    (text following : List ℕ) → inner ≡ doubled text ++ quote ∷ following
    → BeginsOtherwise is_quote following → ⊥

abbrev pub IsLexemeOf : Token → Lexeme → Type 0
IsLexemeOf token (NameLexeme text) = token ≡ name text
IsLexemeOf token (Other kind) = IsKind token kind

-- the text begins with this token, of so many bytes
abbrev pub IsLexeme : List ℕ → Lexeme → ℕ → Type 0
IsLexeme text lexeme count =
    (0 < count) × (count ≤ length text)
    × (token : Token) × Spells (take count text) token (drop count text) × IsLexemeOf token lexeme

-- the token as it is kept, where k names stand before it
abbrev pub token_of : ℕ → ℕ → Lexeme → ReadToken
token_of column k (NameLexeme text) = record { column = column; kind = AMark (Name (record { 0 = k })) }
token_of column k (Other kind) = record { column = column; kind = kind }

-- its name, if it is one
abbrev pub uses_in : ℕ → Lexeme → List Use
uses_in column (NameLexeme text) = (record { column = column; name = text }) ∷ []
uses_in column (Other kind) = []

-- The tokens were read as these, where k names stand before them, and their names are these.
abbrev pub AreRead : ℕ → List Placed → List ReadToken → List Use → Type 0
AreRead k [] [] uses = uses ≡ []
AreRead k [] (read ∷ reads) uses = ⊥
AreRead k (placed ∷ others) [] uses = ⊥
AreRead k (placed ∷ others) (read ∷ reads) uses =
    (read.column ≡ placed.column)
    × (((u : Use) × (more : List Use) × (placed ≡ named u) × (uses ≡ u ∷ more)
    × (item : Item) × (read.kind ≡ AMark (Name item)) × (item.0 ≡ k) × AreRead (k + 1) others reads more)
    ⊎ (IsKind placed.token read.kind × AreRead k others reads uses))

-- Up to this byte the text was read as these, whatever the rest is.
pub record IsScannedTo (text : List ℕ) (at : ℕ) (reads : List ReadToken) (uses : List Use) : Type 0 where
  pub within : at ≤ length text
  pub few : length uses ≤ at
  pub placed : List Placed
  pub before : (others : List Placed) (end : ℕ) (rest : List ℕ)
      → AreTokensBefore (at + 1) (drop at text) others end rest
      → AreTokensBefore 1 text (placed ++ others) end rest
  pub are_read : AreRead 0 placed reads uses

-- the text was read as these
abbrev pub IsScanned : List ℕ → List ReadToken → List Use → Type 0
IsScanned text reads uses = (placed : List Placed) × AreTokens text placed × AreRead 0 placed reads uses

-- want of memory, or the first bad token of the text
abbrev pub IsBadTokenFault : List ℕ → PatexFault → Type 0
IsBadTokenFault text fault =
    (fault ≡ NoMemory) ⊎ ((column : ℕ) × IsBadToken text column × (fault ≡ BadToken column))
