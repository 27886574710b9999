-- Items by the numbers of their names.
use Rattle.std.specs.Prelude.{◌≡◌, ℕ, ◌<◌, ◌↔◌, List, [], ◌++◌, map, length, Contains, ◌≢◌, true}
use Rattle.std.specs.List.{AllByRecursion, slice_index_or}
use Rattle.mine_model.specs.declared.item.Item.{Item}
use Rattle.mine_model.specs.declared.row.Row.{Row}
use Rattle.mine_model.specs.Hierarchy.{Link}
use Rattle.mine_model.specs.Expression.{named_in}
use Rattle.mine_model.specs.Support.{Sequence}
use Rattle.mine_model.specs.Answer.{Data, NamedRow}
use Rattle.mine_model.specs.Text.{is_name_byte}
use Rattle.mine_model.specs.Tokens.{Each}

-- the name of an item, where names lists the name of each number
abbrev pub name_of : List (List ℕ) → Item → List ℕ
name_of names item = slice_index_or names item.0 []

-- the item has a name
abbrev pub HasName : List (List ℕ) → Item → Type 0
HasName names item = item.0 < length names

-- a name of a file: not empty, and of name bytes alone
abbrev pub IsFileName : List ℕ → Type 0
IsFileName name = (name ≢ []) × Each is_name_byte true name

-- numbers with the same name are the same
abbrev pub AreDistinct : List (List ℕ) → Type 0
AreDistinct names =
    (i j : ℕ) → i < length names → j < length names → slice_index_or names i [] ≡ slice_index_or names j []
    → i ≡ j

abbrev pub link_by : {A B : Type 0} → (A → B) → Link A → Link B
link_by f link = record { child = f link.child; parent = f link.parent }

abbrev pub sequence_by : {A B : Type 0} → (A → B) → Sequence A → Sequence B
sequence_by f sequence = record { items = map f sequence.items; weight = sequence.weight }

-- the row with the names of its items
abbrev pub named_row : List (List ℕ) → Row → NamedRow
named_row names row = record { pattern = map (name_of names) row.pattern; support = row.support }

-- behind the old names stand the new ones among these names
pub record GrowBy (old names new : List (List ℕ)) : Type 0 where
  pub added : List (List ℕ)
  pub behind : new ≡ old ++ added
  pub exact : (name : List ℕ) → Contains new name ↔ Contains (old ++ names) name

-- each item of the data has a name
pub record AreNamed (names : List (List ℕ)) (d : Data Item) : Type 0 where
  pub links : AllByRecursion (λ link. HasName names link.child × HasName names link.parent) d.links
  pub sequences : AllByRecursion (λ sequence. AllByRecursion (HasName names) sequence.items) d.sequences
  pub expression : AllByRecursion (HasName names) (named_in d.expression)
