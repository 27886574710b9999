use Rattle.std.proofs.Common.{List, [], arith, refl, sym, subst, ◌∙◌}
use Rattle.mine_model.proofs.ListLemmas.{written_back}
use Rattle.open_addressing.specs.Table.{IsTable}
use Rattle.open_addressing.proofs.TableLemmas.{IsTable-emptied}
use Rattle.prefix_counts.specs.declared.table.Slot.{Slot}
use Rattle.prefix_counts.specs.Table.{layout}
use Rattle.prefix_counts.proofs.table.free_all.Goals as goal

pub returns-clause-table : goal.returns-clause-table
returns-clause-table c =
    let slots : List Slot = c.loop-slot.slot-items in
    subst (IsTable layout []) (sym (written_back slots c.args.slots.now.items c.args.slots.now.len (c.args.slots.now.ok.0 ∙ sym c.loop-slot.invariant.size)))
    (IsTable-emptied layout refl slots (λ at within. c.loop-slot.invariant.free at (omega arith)))
