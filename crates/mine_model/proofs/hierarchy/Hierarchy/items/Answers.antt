use Rattle.std.proofs.Common.{◌≡◌, ◌<◌, All, subst}
use Rattle.mine_model.specs.declared.item.Item.{Item}
use Rattle.mine_model.specs.Hierarchy.{IsAncestor}
use Rattle.mine_model.specs.Ancestry.{Ancestry}
use Rattle.mine_model.proofs.AncestryLemmas.{links_within, apart_by_links}
use Rattle.mine_model.proofs.hierarchy.Hierarchy.items.Goals as goal

pub returns-clause-within : goal.returns-clause-within
returns-clause-within c =
    let Within : Ancestry → Type 0 = λ a. All (λ link. (link.child.0 < a.items) × (link.parent.0 < a.items)) a.links in
    subst Within c.self.view_is (links_within c.self.inside.ends.items c.self.inside.lists.items c.self.invariant.0)

pub returns-clause-apart : goal.returns-clause-apart
returns-clause-apart c =
    let Apart : Ancestry → Type 0 = λ a. (t w : Item) → IsAncestor a.links w t → IsAncestor a.links t w → w ≡ t in
    subst Apart c.self.view_is (apart_by_links c.self.inside.ends.items c.self.inside.lists.items c.self.invariant.0)
