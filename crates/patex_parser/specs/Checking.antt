-- What is refused of tokens that were read, and of their tree.
use Rattle.std.specs.Prelude.{◌≡◌, ℕ, ◌+◌, ◌-◌, ◌<◌, ◌≤◌, ◌⊎◌, min, Option, Some, None, List, [], ◌∷◌, ◌++◌}
use Rattle.std.specs.List.{fold}
use Rattle.mine_model.specs.declared.item.Item.{Item}
use Rattle.patex_parser.specs.declared.patex_fault.PatexFault.{PatexFault}
use Rattle.patex_parser.specs.declared.patex_fault.PatexFault.TheVariants.{BadRepeat, RepeatLimit, TooDeep, TooManyLeaves}
use Rattle.mine_model.specs.Limits.{most_nested, most_leaves, most_told_leaves}
use Rattle.mine_model.specs.Expression.{Tree, unfolded_leaves}
use Rattle.mine_model.specs.First.{FirstAmong}
use Rattle.patex_parser.specs.declared.token.Mark.TheVariants.{Name, Caret, Equals, Dot, Bang, Bar, Opening, Closing, Postfix}
use Rattle.patex_parser.specs.declared.token.Kind.{Kind}
use Rattle.patex_parser.specs.declared.token.Kind.TheVariants.{Mark, BadRepeat as IsBad, BeyondLimit}
use Rattle.patex_parser.specs.declared.token.ReadToken.{ReadToken}

-- a token has the property, which is told the tokens before it, and stands at the column
abbrev pub HasAt : (List ReadToken → ReadToken → Type 0) → List ReadToken → ReadToken → ℕ → Type 0
HasAt Has before read column = Has before read × (column ≡ read.column)

-- the column of the first token that has the property
abbrev pub IsFirstRead : (List ReadToken → ReadToken → Type 0) → List ReadToken → ℕ → Type 0
IsFirstRead Has reads column = FirstAmong (HasAt Has) [] reads column

-- none of the tokens has the property, where these stand before them
abbrev pub NoneHas : (List ReadToken → ReadToken → Type 0) → List ReadToken → List ReadToken → Type 0
NoneHas Has before [] = Unit {0}
NoneHas Has before (read ∷ reads) = (Has before read → ⊥) × NoneHas Has (before ++ read ∷ []) reads

-- the column of the first token that has the property, or that none has it
abbrev pub TellsFirst : (List ReadToken → ReadToken → Type 0) → List ReadToken → Option ℕ → Type 0
TellsFirst Has reads None = NoneHas Has [] reads
TellsFirst Has reads (Some column) = IsFirstRead Has reads column

abbrev pub IsOf : Kind → List ReadToken → ReadToken → Type 0
IsOf kind before read = read.kind ≡ kind

-- the first bad repeat, or where there is none, the first with a number beyond the limit
abbrev pub IsRepeatFault : List ReadToken → PatexFault → Type 0
IsRepeatFault reads fault =
    ((column : ℕ) × IsFirstRead (IsOf IsBad) reads column × (fault ≡ BadRepeat column))
    ⊎ (NoneHas (IsOf IsBad) [] reads × (column : ℕ)
    × IsFirstRead (IsOf BeyondLimit) reads column × (fault ≡ RepeatLimit column))

-- what a token does to the depth
pub data Effect : Type 0 where
  opens : Effect
  closes : Effect
  repeats : Effect
  plain : Effect

abbrev pub effect_of : Kind → Effect
effect_of (Mark (Name item)) = plain
effect_of (Mark Caret) = plain
effect_of (Mark Equals) = plain
effect_of (Mark Dot) = plain
effect_of (Mark Bang) = plain
effect_of (Mark Bar) = plain
effect_of (Mark (Opening bracket)) = opens
effect_of (Mark (Closing bracket)) = closes
effect_of (Mark (Postfix least most)) = repeats
effect_of IsBad = plain
effect_of BeyondLimit = plain

abbrev pub open_step : ℕ → Effect → ℕ
open_step open_before opens = open_before + 1
open_step open_before closes = open_before - 1
open_step open_before repeats = open_before
open_step open_before plain = open_before

abbrev pub signs_step : ℕ → Effect → ℕ
signs_step signs opens = 0
signs_step signs closes = 0
signs_step signs repeats = signs + 1
signs_step signs plain = 0

-- how many brackets are open behind tokens
abbrev pub open_after : List ReadToken → ℕ
open_after reads = fold (λ n read. open_step n (effect_of read.kind)) 0 reads

-- how many postfix signs stand last in a row
abbrev pub signs_after : List ReadToken → ℕ
signs_after reads = fold (λ n read. signs_step n (effect_of read.kind)) 0 reads

abbrev pub IsTooDeepAt : ℕ → ℕ → Effect → Type 0
IsTooDeepAt open_before signs effect =
    ((effect ≡ opens) × (most_nested ≤ open_before)) ⊎ ((effect ≡ repeats) × (most_nested ≤ signs))

abbrev pub IsTooDeepRead : List ReadToken → ReadToken → Type 0
IsTooDeepRead before read = IsTooDeepAt (open_after before) (signs_after before) (effect_of read.kind)

abbrev pub IsNotTooDeep : List ReadToken → Type 0
IsNotTooDeep reads = NoneHas IsTooDeepRead [] reads

abbrev pub IsDepthFault : List ReadToken → PatexFault → Type 0
IsDepthFault reads fault = (column : ℕ) × IsFirstRead IsTooDeepRead reads column × (fault ≡ TooDeep column)

abbrev pub IsLeavesFault : Tree Item → PatexFault → Type 0
IsLeavesFault tree fault =
    (most_leaves < unfolded_leaves tree)
    × (fault ≡ TooManyLeaves (min (unfolded_leaves tree) most_told_leaves))
