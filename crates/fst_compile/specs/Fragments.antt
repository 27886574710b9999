-- What is known of a part of an expression whose edges were added.
use Rattle.std.specs.Prelude.{◌≡◌, ℕ, ◌+◌, ◌-◌, ◌<◌, max, ◌↔◌, Bool, true, cond, nat_lt, nat_le, nat_eq, ◌&&◌, ◌||◌, IsTrue, MatchBool, List, [], ◌++◌, Option, Some, None, All, Contains}
use Rattle.mine_model.specs.declared.item.Item.{Item}
use Rattle.mine_model.specs.Expression.{Tree}
use Rattle.fst_compile.specs.declared.fragment.Fragment.{Fragment}
use Rattle.fst_compile.specs.Rows.{Adds}
use Rattle.fst_compile.specs.Shape.{Shape, nothing, between, at_least, unfold_tree}
use Rattle.fst_compile.specs.Positions.{size, CanBeEmpty, First, Last, Follows}

-- the fragment of a shape whose first position has this number
pub record IsFragment (shape : Shape) (at : ℕ) (fragment : Fragment) : Type 0 where
  pub size_is : fragment.size ≡ size shape
  pub empty : IsTrue fragment.empty ↔ CanBeEmpty shape
  pub first : (k : ℕ) → Contains fragment.first.items k ↔ First shape at k
  pub last : (k : ℕ) → Contains fragment.last.items k ↔ Last shape at k

-- its states are below n
pub record IsWithin (n : ℕ) (fragment : Fragment) : Type 0 where
  pub first : All (λ k. k < n) fragment.first.items
  pub last : All (λ k. k < n) fragment.last.items

-- one fragment behind another, where this says whether they take the empty piece
pub record IsJoined (front back : Fragment) (empty : Bool) (both : Fragment) : Type 0 where
  pub size_is : both.size ≡ front.size + back.size
  pub empty_is : both.empty ≡ empty
  pub first : both.first.items ≡ front.first.items ++ cond front.empty back.first.items []
  pub last : both.last.items ≡ cond back.empty (front.last.items ++ back.last.items) back.last.items

-- one fragment beside another
pub record IsEither (one other both : Fragment) : Type 0 where
  pub size_is : both.size ≡ one.size + other.size
  pub empty_is : both.empty ≡ one.empty || other.empty
  pub first : both.first.items ≡ one.first.items ++ other.first.items
  pub last : both.last.items ≡ one.last.items ++ other.last.items

-- no state
pub record IsBare (empty : Bool) (fragment : Fragment) : Type 0 where
  pub size_is : fragment.size ≡ 0
  pub empty_is : fragment.empty ≡ empty
  pub first : fragment.first.items ≡ []
  pub last : fragment.last.items ≡ []

-- the same but for whether it can be empty
pub record IsAlike (before : Fragment) (empty : Bool) (after : Fragment) : Type 0 where
  pub size_is : after.size ≡ before.size
  pub empty_is : after.empty ≡ empty
  pub first : after.first.items ≡ before.first.items
  pub last : after.last.items ≡ before.last.items

-- the copy of this index with those behind it
abbrev pub IsCopyAdded : ℕ → Option ℕ → ℕ → Fragment → Fragment → Fragment → Type 0
IsCopyAdded least None index copy rest result =
    MatchBool (nat_lt (index + 1) least) (IsJoined copy rest (copy.empty && rest.empty) result)
    (IsAlike copy (copy.empty || nat_eq least 0) result)
IsCopyAdded least (Some most) index copy rest result =
    IsJoined copy rest ((copy.empty && rest.empty) || nat_le least index) result

-- the states to which the last states of that copy lead
abbrev pub behind_copy : ℕ → Option ℕ → ℕ → Fragment → Fragment → List ℕ
behind_copy least None index copy rest = cond (nat_lt (index + 1) least) rest.first.items copy.first.items
behind_copy least (Some most) index copy rest = rest.first.items

abbrev pub AddsCopy : ℕ → Option ℕ → ℕ → Fragment → Fragment → List ℕ → List ℕ → Type 0
AddsCopy least most index copy rest before after =
    Adds before after (λ j k. Contains copy.last.items j
    × Contains (behind_copy least most index copy rest) k)

-- the copies of a repetition from an index on
abbrev pub copies_from : Shape → ℕ → Option ℕ → ℕ → Shape
copies_from shape least (Some most) index = between (least - index) (most - index) shape
copies_from shape least None index =
    cond (nat_lt index (max least 1)) (at_least (least - index) shape) nothing

-- whether a repetition has room for its lower bound
abbrev pub is_enough : ℕ → Option ℕ → Bool
is_enough least None = true
is_enough least (Some most) = nat_le least most

-- whether the copies of a repetition take the empty piece, where its inner expression has no state
abbrev pub empty_of_copies : ℕ → Option ℕ → Bool → Bool
empty_of_copies least None empty = nat_eq least 0 || empty
empty_of_copies least (Some most) empty = nat_le least most && (nat_eq least 0 || empty)

-- the edges of the tree were added, whose first state has this number
pub record IsBuilt (tree : Tree Item) (at : ℕ) (before after : List ℕ) (fragment : Fragment) : Type 0 where
  pub fragment_is : (captured : Bool) → IsFragment (unfold_tree tree captured) at fragment
  pub edges : (captured : Bool) → Adds before after (Follows (unfold_tree tree captured) at)
