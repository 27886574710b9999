use Rattle.std.proofs.Common.{◌≡◌, ◌≤◌, ◌+◌, [], ◌∷◌, ◌++◌, length, arith}
use Rattle.std.proofs.lemmas.List.{length-append}
use Rattle.mine_model.specs.Limits.{most_ancestors}
use Rattle.item_hierarchy.specs.Gathering.{list_in}
use Rattle.item_hierarchy.proofs.ClosingLemmas.{AreOrdered, ordered_few, one_more_ordered}
use Rattle.item_hierarchy.proofs.closing.in_order_of_number.Goals as goal
use Rattle.item_hierarchy.proofs.closing.in_order_of_number.Goals.{After-len}

-- the length so far
size_of : (c : After-len) → c.len.result ≡ length c.loop-part.ordered.items + length (list_in c.args.parts.now c.args.lists.now c.loop-part.part-index)
size_of c =
    omega (arith, c.len.ensures, c.in_ok-extend_from_slice.ensures.len, c.loop-part.ordered.ok.0)

more : (c : After-len) → AreOrdered c.args.parts.now c.args.lists.now (c.loop-part.part-index + 1) (c.loop-part.ends.items ++ c.len.result ∷ [])
    (c.loop-part.ordered.items ++ list_in c.args.parts.now c.args.lists.now c.loop-part.part-index)
more c = one_more_ordered c.args.parts.now c.args.lists.now c.loop-part.part-index c.loop-part.ends.items c.loop-part.ordered.items c.loop-part.invariant
    c.len.result (size_of c) (c.requires.parts c.loop-part.part-index c.loop-part-test.true)

pub overflow_cast-len : goal.overflow_cast-len
overflow_cast-len c =
    let few : length (c.loop-part.ordered.items ++ list_in c.args.parts.now c.args.lists.now c.loop-part.part-index) ≤ most_ancestors =
    ordered_few c.args.parts.now c.args.lists.now (c.loop-part.part-index + 1) (c.loop-part.ends.items ++ c.len.result ∷ [])
    (c.loop-part.ordered.items ++ list_in c.args.parts.now c.args.lists.now c.loop-part.part-index) (more c) (omega arith) c.requires.few in
    let small : c.len.result ≤ most_ancestors = omega (arith, few, size_of c, length-append c.loop-part.ordered.items (list_in c.args.parts.now c.args.lists.now c.loop-part.part-index)) in
    omega arith

pub loop-part-preserved : goal.loop-part-preserved
loop-part-preserved c =
    rw (c.in_ok-push.ensures.items, c.in_ok-extend_from_slice.ensures.items) (more (goal.at.loop-part-preserved c).After-len)

pub returns-clause-few : goal.returns-clause-few
returns-clause-few c =
    let upto : c.loop-part.part-index ≤ length c.args.parts.now = omega arith in
    ordered_few c.args.parts.now c.args.lists.now c.loop-part.part-index c.loop-part.ends.items c.loop-part.ordered.items c.loop-part.invariant upto c.requires.few
