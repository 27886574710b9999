use Rattle.std.proofs.Common.{◌∙◌, map, ap}
use Rattle.sequence_grids.specs.Tables.{class_sets, triple_sets}
use Rattle.sequence_grids.proofs.TableLemmas.{IsTable-copy}
use Rattle.sequence_grids.proofs.table.Table.copy.Goals as goal

pub invariant_of-result : goal.invariant_of-result
invariant_of-result g c =
    let classes = ap (map (class_sets {W = g.row.W})) (c.in_ok-set_in_order.ensures ∙ c.as_slice-2.ensures.keys) in
    let triples = ap (map (triple_sets {W = g.row.W})) (c.in_ok-set_in_order-2.ensures ∙ c.as_slice-3.ensures.keys) in
    rw (c.in_ok-extend_from_slice.ensures.items, c.new-predecessors.ensures.items, c.as_slice.ensures.value, classes, triples, c.new.ensures.items)
    (IsTable-copy g.row.W c.self.inside.predecessors.items _ _ c.self.inside.steps.items c.self.invariant)
