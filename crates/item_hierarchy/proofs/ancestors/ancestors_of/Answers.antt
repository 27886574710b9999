use Rattle.std.proofs.Common.{◌≡◌, ◌<◌, ◌+◌, [], ◌∷◌, ◌++◌, get_or, take, ◌∙◌}
use Rattle.std.proofs.lemmas.List.{take_more}
use Rattle.std.proofs.lemmas.List.Elements.{All-contains, All-take}
use Rattle.mine_model.specs.declared.item.Item.{Item}
use Rattle.item_hierarchy.specs.Edges.{links_of}
use Rattle.item_hierarchy.specs.Gathering.{IsGathered}
use Rattle.item_hierarchy.proofs.GatheringLemmas.{gathered-more, overflow, not_before, stamps-more, stamps-new}
use Rattle.item_hierarchy.proofs.ancestors.ancestors_of.Goals as goal

abbrev zero_item : Item
zero_item = record { 0 = 0 }

pub add-requires-clause-new : goal.add-requires-clause-new
add-requires-clause-new c =
    stamps-new c.args.order.now c.loop-t.t-index zero_item c.loop-t.ancestors.seen.items c.requires.order.once c.loop-t-test.true c.loop-t.invariant.stamps

pub add-requires-clause-parents : goal.add-requires-clause-parents
add-requires-clause-parents c parent linked =
    All-contains (λ t. IsGathered (links_of c.args.rows.now) c.loop-t.ancestors.parts.items c.loop-t.ancestors.lists.items t) (take c.loop-t.t-index c.args.order.now) parent
    c.loop-t.invariant.gathered.each (c.requires.order.first c.loop-t.t-index zero_item parent c.loop-t-test.true linked)

pub returns-then-not-branch : goal.returns-then-not-branch
returns-then-not-branch c =
    let t : Item = get_or c.args.order.now c.loop-t.t-index zero_item in
    let over = c.in_ok-add.ensures.overflows c.if-not-branch.true in
    overflow (links_of c.args.rows.now) (take c.loop-t.t-index c.args.order.now) c.loop-t.ancestors.parts.items c.loop-t.ancestors.lists.items c.loop-t.invariant.gathered
    t (not_before c.args.order.now c.loop-t.t-index zero_item c.requires.order.once c.loop-t-test.true) c.args.items
    (All-take (λ v. v.0 < c.args.items) c.loop-t.t-index c.args.order.now c.requires.order.within)
    (c.requires.order.within c.loop-t.t-index zero_item c.loop-t-test.true) over

pub loop-t-preserved : goal.loop-t-preserved
loop-t-preserved c =
    let t : Item = get_or c.args.order.now c.loop-t.t-index zero_item in
    let more : take (c.loop-t.t-index + 1) c.args.order.now ≡ take c.loop-t.t-index c.args.order.now ++ t ∷ [] =
    take_more c.args.order.now c.loop-t.t-index zero_item c.loop-t-test.true in
    let adds = c.in_ok-add.ensures.adds c.if-not-branch.false in
    record {
      gathered = rw more (gathered-more (links_of c.args.rows.now) (take c.loop-t.t-index c.args.order.now) c.loop-t.ancestors.parts.items c.loop-t.ancestors.lists.items
          c.loop-t.invariant.gathered t (not_before c.args.order.now c.loop-t.t-index zero_item c.requires.order.once c.loop-t-test.true)
          c.add.new.self.parts.items c.add.new.self.lists.items adds);
      parts = adds.size ∙ c.loop-t.invariant.parts;
      seen = c.in_ok-add.ensures.size ∙ c.loop-t.invariant.seen;
      stamps = rw more (stamps-more (take c.loop-t.t-index c.args.order.now) t c.loop-t.ancestors.seen.items c.add.new.self.seen.items c.loop-t.invariant.stamps c.in_ok-add.ensures.seen);
      few = c.in_ok-add.ensures.few c.if-not-branch.false;
    }
