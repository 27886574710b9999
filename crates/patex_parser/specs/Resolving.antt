-- The items that stand for the names of uses.
use Rattle.std.specs.Prelude.{◌≡◌, ℕ, List, [], ◌∷◌}
use Rattle.std.specs.List.{slice_index_or}
use Rattle.mine_model.specs.declared.item.Item.{Item}
use Rattle.mine_model.specs.Grammar.{Use}
use Rattle.mine_model.specs.Names.{name_of, HasName}

-- each use has its item, whose name is that of the use
abbrev pub AreItemsOf : List (List ℕ) → List Use → List Item → Type 0
AreItemsOf names [] [] = Unit {0}
AreItemsOf names [] (item ∷ items) = ⊥
AreItemsOf names (u ∷ uses) [] = ⊥
AreItemsOf names (u ∷ uses) (item ∷ items) =
    (HasName names item × (name_of names item ≡ u.name)) × AreItemsOf names uses items

-- the item with this number among items, and beyond them the number itself
abbrev pub item_at : List Item → Item → Item
item_at items k = slice_index_or items k.0 k
