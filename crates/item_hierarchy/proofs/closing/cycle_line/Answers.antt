use Rattle.std.proofs.Common.{ℕ, ◌+◌, ◌-◌, ◌/◌, arith}
use Rattle.item_hierarchy.specs.Walking.{links_upto, IsParentsFirst}
use Rattle.item_hierarchy.proofs.ClosingLemmas.{acyclic_before}
use Rattle.item_hierarchy.proofs.closing.cycle_line.Goals as goal

pub loop-low-preserved-in-Some : goal.loop-low-preserved-in-Some
loop-low-preserved-in-Some c =
    let middle : ℕ = c.loop-low.low + (c.loop-low.high - c.loop-low.low) / 2 in
    let first : IsParentsFirst (links_upto middle c.args.rows.now) c.args.items c.in-Some._order.items = rw c.in-Some.is at c.in_ok-_order.ensures in
    record {
      range = omega arith;
      cycle = c.loop-low.invariant.cycle;
      none = acyclic_before c.args.items c.args.rows.now middle c.in-Some._order.items c.requires.within first;
    }

pub returns : goal.returns
returns c = (c.loop-low.invariant.cycle, λ earlier less. c.loop-low.invariant.none earlier (omega arith))
