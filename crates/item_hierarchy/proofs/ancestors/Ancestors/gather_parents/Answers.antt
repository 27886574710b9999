use Rattle.std.proofs.Common.{◌≡◌, ◌↔◌, ◌<◌, ℕ, ◌+◌, List, [], ◌∷◌, length, get_or, inl, inr, refl, sym, ap, ◌∙◌, subst, arith}
use Rattle.std.specs.List.{Contains}
use Rattle.std.proofs.lemmas.List.{get_or_default}
use Rattle.std.proofs.lemmas.Bool.{cases_lt}
use Rattle.mine_model.specs.declared.item.Item.{Item}
use Rattle.mine_model.specs.Hierarchy.{IsAncestor}
use Rattle.mine_model.proofs.WalkLemmas.{IsAncestor-chain}
use Rattle.item_hierarchy.specs.declared.edges.EdgeRow.{EdgeRow}
use Rattle.item_hierarchy.specs.Edges.{links_of}
use Rattle.item_hierarchy.specs.Gathering.{list_in}
use Rattle.item_hierarchy.proofs.GatheringLemmas.{row_is_link, list_within, holds-more, parent_held, sound-more, holds-all, parents_of_rows}
use Rattle.item_hierarchy.proofs.ancestors.Ancestors.gather_parents.Goals as goal

abbrev zero_row : EdgeRow
zero_row = record { child = record { 0 = 0 }; parent = record { 0 = 0 }; line = 0 }

pub gather_parent-requires-clause-within : goal.gather_parent-requires-clause-within
gather_parent-requires-clause-within c =
    let items : ℕ = length c.args.self.now.parts.items in
    let parent : Item = (get_or c.args.rows.now c.loop-at.at zero_row).parent in
    let linked : Contains (links_of c.args.rows.now) (record { child = c.args.t; parent = parent }) =
    row_is_link items c.args.starts.now c.args.rows.now c.args.t c.requires.sorted c.requires.inside c.loop-at.at zero_row c.loop-at.auto.at c.loop-at-test.true in
    let at_within : c.loop-at.at < length c.args.rows.now = omega (arith, c.requires.sorted.within (c.args.t.0 + 1) (omega (arith, c.requires.inside)), c.loop-at-test.true) in
    let size : length c.loop-at.self.seen.items ≡ length c.args.self.now.parts.items = c.loop-at.invariant.size ∙ c.requires.seen in
    rw (c.loop-at.invariant.parts, c.loop-at.invariant.lists, size)
    (list_within items c.args.rows.now c.args.self.now.parts.items c.args.self.now.lists.items parent c.requires.within (c.requires.parents parent linked)
    (c.requires.within c.loop-at.at zero_row at_within).1)

pub returns-then-not-branch-clause-sound : goal.returns-then-not-branch-clause-sound
returns-then-not-branch-clause-sound c =
    let items : ℕ = length c.args.self.now.parts.items in
    let parent : Item = (get_or c.args.rows.now c.loop-at.at zero_row).parent in
    let list : List Item = list_in c.loop-at.self.parts.items c.loop-at.self.lists.items parent.0 in
    let linked : Contains (links_of c.args.rows.now) (record { child = c.args.t; parent = parent }) =
    row_is_link items c.args.starts.now c.args.rows.now c.args.t c.requires.sorted c.requires.inside c.loop-at.at zero_row c.loop-at.auto.at c.loop-at-test.true in
    let are : (w : Item) → (Contains list w ↔ IsAncestor (links_of c.args.rows.now) w parent) =
    λ w. rw (c.loop-at.invariant.parts, c.loop-at.invariant.lists) ((c.requires.parents parent linked).ancestors w) in
    sound-more (links_of c.args.rows.now) c.args.t c.requires.acyclic c.loop-at.self.gathered.items c.gather_parent.new.self.gathered.items list parent
    c.loop-at.invariant.holds linked are c.in_ok-gather_parent.ensures.kept c.in_ok-gather_parent.ensures.from

pub returns-then-not-branch-clause-full : goal.returns-then-not-branch-clause-full
returns-then-not-branch-clause-full c off =
    let items : ℕ = length c.args.self.now.parts.items in
    let parent : Item = (get_or c.args.rows.now c.loop-at.at zero_row).parent in
    let list : List Item = list_in c.loop-at.self.parts.items c.loop-at.self.lists.items parent.0 in
    let linked : Contains (links_of c.args.rows.now) (record { child = c.args.t; parent = parent }) =
    row_is_link items c.args.starts.now c.args.rows.now c.args.t c.requires.sorted c.requires.inside c.loop-at.at zero_row c.loop-at.auto.at c.loop-at-test.true in
    let are : (w : Item) → (Contains list w ↔ IsAncestor (links_of c.args.rows.now) w parent) =
    λ w. rw (c.loop-at.invariant.parts, c.loop-at.invariant.lists) ((c.requires.parents parent linked).ancestors w) in
    let (w, held, not_gathered, size) = c.in_ok-gather_parent.ensures.full c.if-not-branch.true in
    (w, IsAncestor-chain (links_of c.args.rows.now) w parent c.args.t ((are w).0 held) (parent ∷ [], (linked, refl)), not_gathered, size)

pub loop-at-preserved : goal.loop-at-preserved
loop-at-preserved c =
    let items : ℕ = length c.args.self.now.parts.items in
    let parent : Item = (get_or c.args.rows.now c.loop-at.at zero_row).parent in
    let list : List Item = list_in c.loop-at.self.parts.items c.loop-at.self.lists.items parent.0 in
    let linked : Contains (links_of c.args.rows.now) (record { child = c.args.t; parent = parent }) =
    row_is_link items c.args.starts.now c.args.rows.now c.args.t c.requires.sorted c.requires.inside c.loop-at.at zero_row c.loop-at.auto.at c.loop-at-test.true in
    let are : (w : Item) → (Contains list w ↔ IsAncestor (links_of c.args.rows.now) w parent) =
    λ w. rw (c.loop-at.invariant.parts, c.loop-at.invariant.lists) ((c.requires.parents parent linked).ancestors w) in
    let all = c.in_ok-gather_parent.ensures.all c.if-not-branch.false in
    let holds = holds-more (links_of c.args.rows.now) c.args.t c.requires.acyclic c.loop-at.self.gathered.items c.gather_parent.new.self.gathered.items list parent
    c.loop-at.invariant.holds linked are c.in_ok-gather_parent.ensures.kept c.in_ok-gather_parent.ensures.from all in
    let held : Contains c.gather_parent.new.self.gathered.items parent =
    parent_held (links_of c.args.rows.now) c.args.t c.requires.acyclic c.loop-at.self.gathered.items c.gather_parent.new.self.gathered.items list parent
    c.loop-at.invariant.holds linked are c.in_ok-gather_parent.ensures.kept c.in_ok-gather_parent.ensures.from all in
    let at_within : c.loop-at.at < length c.args.rows.now = omega (arith, c.requires.sorted.within (c.args.t.0 + 1) (omega (arith, c.requires.inside)), c.loop-at-test.true) in
    record {
      stamped = c.in_ok-gather_parent.ensures.stamped;
      holds = holds;
      room = c.in_ok-gather_parent.ensures.room;
      done = λ k d start upto. elim (cases_lt k c.loop-at.at) [
        | inl before ↦ c.in_ok-gather_parent.ensures.kept _ (c.loop-at.invariant.done k d start before)
        | inr last ↦
            let same : k ≡ c.loop-at.at = omega arith in
            subst (λ (row : EdgeRow). Contains c.gather_parent.new.self.gathered.items row.parent)
            (get_or_default c.args.rows.now c.loop-at.at zero_row d at_within ∙ ap (λ k. get_or c.args.rows.now k d) (sym same)) held
      ];
      size = c.in_ok-gather_parent.ensures.size ∙ c.loop-at.invariant.size;
      seen = λ n. elim (c.in_ok-gather_parent.ensures.seen n) [
        | inl set ↦ inl set
        | inr same ↦ elim (c.loop-at.invariant.seen n) [
          | inl set ↦ inl (same ∙ set)
          | inr before ↦ inr (same ∙ before)
        ]
      ];
      parts = c.in_ok-gather_parent.ensures.parts ∙ c.loop-at.invariant.parts;
      lists = c.in_ok-gather_parent.ensures.lists ∙ c.loop-at.invariant.lists;
    }

pub returns-clause-all : goal.returns-clause-all
returns-clause-all c on w up =
    holds-all (links_of c.args.rows.now) c.args.t c.requires.acyclic c.loop-at.self.gathered.items c.loop-at.invariant.holds
    (parents_of_rows (length c.args.self.now.parts.items) c.args.starts.now c.args.rows.now c.args.t (Contains c.loop-at.self.gathered.items) c.requires.sorted
    (λ k d start upto. c.loop-at.invariant.done k d start (omega (arith, c.loop-at-test.false, upto)))) w up
