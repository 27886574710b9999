use Rattle.std.proofs.Common.{◌<◌, map, length, sym, subst}
use Rattle.std.specs.List.{All}
use Rattle.sequence_grids.specs.Tables.{TableValue, class_sets, triple_sets, AreBelow}
use Rattle.sequence_grids.proofs.TableLemmas.{IsTable-classes, AreBelow-of}
use Rattle.sequence_grids.proofs.table.Table.class_number.Goals as goal

pub invariant_of-self : goal.invariant_of-self
invariant_of-self g c =
    let (more, grown, same) = c.class_in.ensures.grows in
    let P = λ (v : TableValue). All (λ k. k < length v.predecessors) c.args.silent.now × (All (λ k. k < length v.predecessors) c.args.writes.now × All (λ k. k < length v.predecessors) c.args.needs.now) in
    let (silent, (writes, needs)) = subst P (sym c.self.view_is) (c.requires.silent, (c.requires.writes, c.requires.needs)) in
    IsTable-classes g.row.W c.self.inside.predecessors.items (map (class_sets {W = g.row.W}) c.self.inside.classes.keys) (map (class_sets {W = g.row.W}) c.class_in.new.classes.keys) more
    (map (triple_sets {W = g.row.W}) c.self.inside.triples.keys) c.self.inside.steps.items c.self.invariant grown
    (λ class held. subst (AreBelow (length c.self.inside.predecessors.items)) (sym (same class held))
    (AreBelow-of (length c.self.inside.predecessors.items) (record { silent = c.set_of.result; writes = c.set_of-2.result; needs = c.set_of-3.result })
    c.args.silent.now c.args.writes.now c.args.needs.now (record { silent_is = c.set_of.ensures; writes_is = c.set_of-2.ensures; needs_is = c.set_of-3.ensures }) silent writes needs))
