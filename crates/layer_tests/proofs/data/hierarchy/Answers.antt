use Rattle.std.proofs.Common.{List, [], ◌∷◌, ℕ, refl}
use Rattle.mine_model.specs.declared.item.Item.{Item}
use Rattle.mine_model.specs.Ancestry.{item_at, AreAncestorLists}
use Rattle.mine_model.proofs.TestedLists.{AreAncestorLists-tested}
use Rattle.layer_tests.proofs.data.hierarchy.Goals as goal

abbrev ends : List ℕ
ends = 1 ∷ 3 ∷ 5 ∷ 6 ∷ 7 ∷ 8 ∷ 9 ∷ 10 ∷ 12 ∷ 14 ∷ 18 ∷ []

abbrev lists : List Item
lists = item_at 0 ∷ item_at 0 ∷ item_at 1 ∷ item_at 0 ∷ item_at 2 ∷ item_at 3 ∷ item_at 4 ∷ item_at 5 ∷ item_at 6
    ∷ item_at 7 ∷ item_at 7 ∷ item_at 8 ∷ item_at 7 ∷ item_at 9 ∷ item_at 7 ∷ item_at 8 ∷ item_at 9 ∷ item_at 10 ∷ []

are_lists : AreAncestorLists ends lists
are_lists = AreAncestorLists-tested ends lists refl

pub new-requires-clause-lists : goal.new-requires-clause-lists
new-requires-clause-lists c = rw (c.in_ok-ends.ensures.items, c.in_ok-lists.ensures.items) are_lists
