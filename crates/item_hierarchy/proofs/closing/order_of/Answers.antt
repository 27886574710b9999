use Rattle.item_hierarchy.specs.Walking.{links_upto, IsParentsFirst}
use Rattle.item_hierarchy.proofs.ClosingLemmas.{first_of_all, acyclic_all}
use Rattle.item_hierarchy.proofs.closing.order_of.Goals as goal

pub returns-in-Some-clause-order : goal.returns-in-Some-clause-order
returns-in-Some-clause-order c =
    let first : IsParentsFirst (links_upto c.last_line-last.result c.args.rows.now) c.args.items c.in-Some.order.items = rw c.in-Some.is at c.in_ok-parents_first.ensures in
    first_of_all c.args.rows.now c.last_line-last.result c.last_line-last.ensures c.args.items c.in-Some.order.items first

pub returns-in-Some-clause-acyclic : goal.returns-in-Some-clause-acyclic
returns-in-Some-clause-acyclic c =
    let first : IsParentsFirst (links_upto c.last_line-last.result c.args.rows.now) c.args.items c.in-Some.order.items = rw c.in-Some.is at c.in_ok-parents_first.ensures in
    acyclic_all c.args.rows.now c.last_line-last.result c.last_line-last.ensures c.args.items c.in-Some.order.items c.requires.within first
