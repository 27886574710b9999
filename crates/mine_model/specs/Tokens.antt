-- The tokens of the text of an expression. This program's own spelling.
use Rattle.std.specs.Prelude.{◌≡◌, ℕ, ◌+◌, ◌==◌, ◌||◌, nat_le, Bool, true, false, if◌then◌else◌, IsTrue, ◌⊎◌, ◌≢◌, List, [], ◌∷◌, ◌++◌, length, codes}
use Rattle.std.specs.Char.{is_ascii_alphanumeric}
use Rattle.std.specs.List.{AllByRecursion, flat_map, list_any}
use Rattle.mine_model.specs.Bytes.{tab, line_feed, carriage_return, space, quote, open_brace, close_brace, beyond_ascii}

-- what stands free between tokens, and in the braces of a repeat round its numbers
abbrev pub is_free : ℕ → Bool
is_free b = (b == space) || (b == tab) || (b == line_feed) || (b == carriage_return)

-- a byte of a bare name: letters, digits, _ - @ / : # % & and every byte beyond ASCII
abbrev pub is_bare_byte : ℕ → Bool
is_bare_byte b = is_ascii_alphanumeric b || list_any (λ c. b == c) (codes "_-@/:#%&") || nat_le beyond_ascii b

-- the signs, the postfix signs of one byte among them
abbrev pub is_sign : ℕ → Bool
is_sign b = list_any (λ c. b == c) (codes "!=^.()[]|*+?")

abbrev pub is_quote : ℕ → Bool
is_quote b = b == quote

abbrev pub is_closing_brace : ℕ → Bool
is_closing_brace b = b == close_brace

pub data Token : Type 0 where
  name : List ℕ → Token  -- a bare or a quoted name
  sign : ℕ → Token  -- a sign of one byte
  repeat : List ℕ → Token  -- a repeat, by what stands between its braces
  open_repeat : List ℕ → Token  -- a repeat with no closing brace

-- the bytes of a quoted name as they stand between its quotes: each quote twice
abbrev pub doubled : List ℕ → List ℕ
doubled bytes = flat_map (λ b. if is_quote b then b ∷ b ∷ [] else b ∷ []) bytes

-- each byte passes the test, or fails it
abbrev pub Each : (ℕ → Bool) → Bool → List ℕ → Type 0
Each test answer bytes = AllByRecursion (λ b. test b ≡ answer) bytes

-- no byte that passes the test comes first
abbrev pub BeginsOtherwise : (ℕ → Bool) → List ℕ → Type 0
BeginsOtherwise test [] = Unit {0}
BeginsOtherwise test (b ∷ bytes) = test b ≡ false

-- the bytes spell the token, the longest that begins there, where these bytes follow
abbrev pub Spells : List ℕ → Token → List ℕ → Type 0
Spells bytes (name text) following =
    ((bytes ≡ text) × (text ≢ []) × Each is_bare_byte true text × BeginsOtherwise is_bare_byte following)
    ⊎ ((bytes ≡ quote ∷ doubled text ++ quote ∷ []) × BeginsOtherwise is_quote following)
Spells bytes (sign b) following = (bytes ≡ b ∷ []) × IsTrue (is_sign b)
Spells bytes (repeat between) following =
    (bytes ≡ open_brace ∷ between ++ close_brace ∷ []) × Each is_closing_brace false between
Spells bytes (open_repeat behind) following =
    (bytes ≡ open_brace ∷ behind) × Each is_closing_brace false behind × (following ≡ [])

-- a token where it stands: column counts its first byte, from 1
pub record Placed : Type 0 where
  pub column : ℕ
  pub token : Token

-- From this column on the text is these tokens, with free bytes before each of them and behind the last, and
-- then, from a column on, a rest, before which no byte is free.
abbrev pub AreTokensBefore : ℕ → List ℕ → List Placed → ℕ → List ℕ → Type 0
AreTokensBefore column text [] at rest = (free : List ℕ) × (text ≡ free ++ rest) × Each is_free true free
    × (at ≡ column + length free) × BeginsOtherwise is_free rest
AreTokensBefore column text (first ∷ others) at rest =
    (free : List ℕ) × (bytes : List ℕ) × (following : List ℕ) × (text ≡ free ++ bytes ++ following)
    × Each is_free true free × (first.column ≡ column + length free) × Spells bytes first.token following
    × AreTokensBefore (column + length free + length bytes) following others at rest

-- the text is these tokens
abbrev pub AreTokens : List ℕ → List Placed → Type 0
AreTokens text tokens = (end : ℕ) × AreTokensBefore 1 text tokens end []

-- a token begins here
abbrev pub BeginsToken : List ℕ → Type 0
BeginsToken text = (bytes : List ℕ) × (token : Token) × (following : List ℕ)
    × (text ≡ bytes ++ following) × Spells bytes token following

-- up to this column the text is tokens, and no token begins there: a byte that begins none, or a quote that
-- is not closed
abbrev pub IsBadToken : List ℕ → ℕ → Type 0
IsBadToken text column = (tokens : List Placed) × (rest : List ℕ) × AreTokensBefore 1 text tokens column rest
    × (rest ≢ []) × (BeginsToken rest → ⊥)
