use Rattle.std.proofs.Common.{◌≡◌, ◌≤◌, ◌<◌, ◌↔◌, length, sym, ap, ◌∙◌, subst, arith, rules}
use Rattle.std.specs.List.{slice_range, slice_index, All, Contains}
use Rattle.std.proofs.lemmas.List.{get_or_default}
use Rattle.mine_model.specs.Hierarchy.{IsAncestor}
use Rattle.flat_lists.specs.Cuts.{start_of, list_at}
use Rattle.flat_lists.proofs.CutLemmas.{end_within}
use Rattle.mine_model.specs.Ancestry.{Ancestry}
use Rattle.mine_model.proofs.AncestryLemmas.{listed_from_walk, walk_from_listed, list_read, members_within}
use Rattle.mine_model.proofs.hierarchy.Hierarchy.ancestors.Goals as goal
use Rattle.mine_model.proofs.hierarchy.Hierarchy.ancestors.Goals.{After-deref}

few : (c : After-deref) → c.args.t.0 < length c.self.inside.ends.items
few c = let P : Ancestry → Type 0 = λ a. c.args.t.0 < a.items in subst P (sym c.self.view_is) c.requires

the_list : (c : After-deref) → slice_range c.deref.result.now c.start_at-start.result c.index.result.now ≡ list_at c.self.inside.ends.items c.self.inside.lists.items c.args.t.0
the_list c = list_read c.self.inside.ends.items c.self.inside.lists.items c.deref.result.now c.start_at-start.result c.index.result.now c.args.t.0
    (c.start_at-start.ensures ∙ ap (λ ends. start_of ends c.args.t.0) c.as_slice.ensures.value)
    (c.index.ensures ∙ get_or_default c.self.inside.ends.items c.args.t.0 c.index.result.now 0 (few c)) c.deref.ensures.value

pub slice_bounds-result-end : goal.slice_bounds-result-end
slice_bounds-result-end c =
    let start : c.start_at-start.result ≡ start_of c.self.inside.ends.items c.args.t.0 = c.start_at-start.ensures ∙ ap (λ ends. start_of ends c.args.t.0) c.as_slice.ensures.value in
    let end : c.index.result.now ≡ slice_index c.self.inside.ends.items c.args.t.0 = c.index.ensures ∙ get_or_default c.self.inside.ends.items c.args.t.0 c.index.result.now 0 (few c) in
    let forward : c.start_at-start.result ≤ c.index.result.now = omega (arith, start, end, c.self.invariant.0.cut.forward c.args.t.0 (few c)) in
    let within : c.index.result.now ≤ length c.deref.result.now =
    omega (arith, end, ap length c.deref.ensures.value, end_within c.self.inside.ends.items (length c.self.inside.lists.items) c.self.invariant.0.cut c.args.t.0 (few c)) in
    search rules

pub returns-clause-ancestors : goal.returns-clause-ancestors
returns-clause-ancestors c w =
    let inside : c.args.t.0 < length c.self.inside.ends.items = few (goal.at.returns-clause-ancestors c).After-deref in
    let Same : Ancestry → Type 0 = λ a. Contains (list_at c.self.inside.ends.items c.self.inside.lists.items c.args.t.0) w ↔ IsAncestor a.links w c.args.t in
    let same : Contains (list_at c.self.inside.ends.items c.self.inside.lists.items c.args.t.0) w ↔ IsAncestor c.args.self.now.links w c.args.t = subst Same c.self.view_is (
      λ held. walk_from_listed c.self.inside.ends.items c.self.inside.lists.items c.self.invariant.0 c.args.t w (inside, held),
      λ up. (listed_from_walk c.self.inside.ends.items c.self.inside.lists.items c.self.invariant.0 c.args.t up.0 w inside up.1).1,
    ) in
    subst (λ list. Contains list w ↔ IsAncestor c.args.self.now.links w c.args.t) (sym (the_list (goal.at.returns-clause-ancestors c).After-deref)) same

pub returns-clause-within : goal.returns-clause-within
returns-clause-within c =
    let inside : c.args.t.0 < length c.self.inside.ends.items = few (goal.at.returns-clause-within c).After-deref in
    let Within : Ancestry → Type 0 = λ a. All (λ w. w.0 < a.items) (list_at c.self.inside.ends.items c.self.inside.lists.items c.args.t.0) in
    subst (λ list. All (λ w. w.0 < c.args.self.now.items) list) (sym (the_list (goal.at.returns-clause-within c).After-deref))
    (subst Within c.self.view_is (members_within c.self.inside.ends.items c.self.inside.lists.items c.self.invariant.0 c.args.t inside))
