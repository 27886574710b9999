-- What a parser has read.
use Rattle.std.specs.Prelude.{◌≡◌, ℕ, ◌+◌, ◌<◌, ◌⊎◌, List, [], ◌∷◌, length}
use Rattle.std.specs.List.{AllByRecursion, slice_index_or}
use Rattle.mine_model.specs.declared.item.Item.{Item}
use Rattle.mine_model.specs.declared.fault.Fault.{Fault}
use Rattle.patex_parser.specs.declared.patex_fault.PatexFault.{PatexFault}
use Rattle.patex_parser.specs.declared.patex_fault.PatexFault.TheVariants.{NoMemory}
use Rattle.patex_parser.specs.Faults.{fault_of}
use Rattle.mine_model.specs.Expression.{Tree, named_in, tree_by}
use Rattle.mine_model.specs.Grammar.{Use, ReadsAs}
use Rattle.patex_parser.specs.declared.parsed.NameUse.{NameUse}

-- a name where it stands, without where it lies in memory
abbrev pub use_view : NameUse → Use
use_view u = record { column = u.column; name = u.name }

-- the use with this number
abbrev pub use_at : List Use → Item → Use
use_at uses item = slice_index_or uses item.0 (record { column = 0; name = [] })

-- so many items, numbered from k on
abbrev pub AreNumbered : ℕ → List Item → Type 0
AreNumbered k [] = Unit {0}
AreNumbered k (item ∷ items) = (item.0 ≡ k) × AreNumbered (k + 1) items

-- each of the items has a number below n
abbrev pub AreWithin : ℕ → List Item → Type 0
AreWithin n items = AllByRecursion (λ item. item.0 < n) items

-- the tree over the names of the uses that its items stand for
abbrev pub named_tree : List Use → Tree Item → Tree (List ℕ)
named_tree uses tree = tree_by (λ u. u.name) (tree_by (use_at uses) tree)

-- The text reads as the tree, whose items stand for its names: they are numbered from 0 in the order of the
-- text.
pub record IsParsed (text : List ℕ) (tree : Tree Item) (uses : List Use) : Type 0 where
  pub reads : ReadsAs text (tree_by (use_at uses) tree)
  pub named : named_in (tree_by (use_at uses) tree) ≡ uses
  pub numbered : AreNumbered 0 (named_in tree)
  pub as_many : length (named_in tree) ≡ length uses
  pub within : AreWithin (length uses) (named_in tree)

-- want of memory, or the refusal
abbrev pub IsRefused : (Fault → Type 0) → PatexFault → Type 0
IsRefused Refusal e = (e ≡ NoMemory) ⊎ Refusal (fault_of e)
