use Rattle.std.proofs.Common.{◌≡◌, ◌≤◌, ◌<◌, ℕ, length, ap, ◌∙◌, arith}
use Rattle.mine_model.specs.Limits.{most_ancestors}
use Rattle.flat_lists.specs.Cuts.{list_at}
use Rattle.item_hierarchy.specs.Edges.{links_of}
use Rattle.item_hierarchy.specs.Gathering.{list_in, AreGathered}
use Rattle.item_hierarchy.proofs.ClosingLemmas.{parts_of_all, few_pairs, are_lists, closes}
use Rattle.item_hierarchy.proofs.closing.close_in_order.Goals as goal
use Rattle.item_hierarchy.proofs.closing.close_in_order.Goals.{In-Some, In_ok-ends-in-Some}

made : (c : In-Some) → AreGathered (links_of c.args.rows.now) c.args.order.now c.in-Some.made.parts.items c.in-Some.made.lists.items
    × (length c.in-Some.made.parts.items ≡ c.args.items) × (length c.in-Some.made.lists.items ≤ most_ancestors)
made c = rw c.in-Some.is at c.in_ok-ancestors_of.ensures

pub in_order_of_number-requires-clause-parts : goal.in_order_of_number-requires-clause-parts
in_order_of_number-requires-clause-parts c =
    let (gathered, size, few) = made (goal.at.in_order_of_number-requires-clause-parts c).In-Some in
    rw (c.as_slice.ensures.value, c.as_slice-in-Some.ensures.value)
    (parts_of_all c.args.items c.args.rows.now c.requires.within c.args.order.now c.requires.order c.in-Some.made.parts.items c.in-Some.made.lists.items size gathered)

pub in_order_of_number-requires-clause-few : goal.in_order_of_number-requires-clause-few
in_order_of_number-requires-clause-few c =
    let (gathered, size, few) = made (goal.at.in_order_of_number-requires-clause-few c).In-Some in
    rw (c.as_slice.ensures.value, c.as_slice-in-Some.ensures.value)
    (few_pairs c.args.items c.args.rows.now c.requires.within c.args.order.now c.requires.order c.in-Some.made.parts.items c.in-Some.made.lists.items size gathered few)

as_many : (c : In_ok-ends-in-Some) → length c.in_ok-ends-in-Some.ends.items ≡ length c.in-Some.made.parts.items
as_many c = c.in_ok-ends-in-Some.ensures.items ∙ ap (λ parts. length parts) c.as_slice.ensures.value

same : (c : In_ok-ends-in-Some) → (n : ℕ) → n < length c.in-Some.made.parts.items
    → list_at c.in_ok-ends-in-Some.ends.items c.in_ok-ends-in-Some.lists.items n ≡ list_in c.in-Some.made.parts.items c.in-Some.made.lists.items n
same c n below = c.in_ok-ends-in-Some.ensures.lists n (omega (arith, ap (λ parts. length parts) c.as_slice.ensures.value))
    ∙ ap (λ parts. list_in parts c.as_slice-in-Some.result.now n) c.as_slice.ensures.value
    ∙ ap (λ lists. list_in c.in-Some.made.parts.items lists n) c.as_slice-in-Some.ensures.value

pub new-requires-clause-lists : goal.new-requires-clause-lists
new-requires-clause-lists c =
    let a : In_ok-ends-in-Some = (goal.at.new-requires-clause-lists c).In_ok-ends-in-Some in
    let (gathered, size, few) = made (goal.at.new-requires-clause-lists c).In-Some in
    are_lists c.args.items c.args.rows.now c.requires.within c.args.order.now c.requires.order c.in-Some.made.parts.items c.in-Some.made.lists.items size gathered
    c.requires.acyclic c.in_ok-ends-in-Some.ends.items c.in_ok-ends-in-Some.lists.items (as_many a) c.in_ok-ends-in-Some.ensures.cut (same a)

pub returns-in_ok-ends-in-Some-clause-closed : goal.returns-in_ok-ends-in-Some-clause-closed
returns-in_ok-ends-in-Some-clause-closed c =
    let a : In_ok-ends-in-Some = (goal.at.returns-in_ok-ends-in-Some-clause-closed c).In_ok-ends-in-Some in
    let (gathered, size, few) = made (goal.at.returns-in_ok-ends-in-Some-clause-closed c).In-Some in
    closes c.args.items c.args.rows.now c.requires.within c.args.order.now c.requires.order c.in-Some.made.parts.items c.in-Some.made.lists.items size gathered
    c.requires.acyclic c.in_ok-ends-in-Some.ends.items c.in_ok-ends-in-Some.lists.items (as_many a) c.in_ok-ends-in-Some.ensures.cut (same a) few
    c.new.result c.new.ensures.items c.new.ensures.ancestors c.new.ensures.within
