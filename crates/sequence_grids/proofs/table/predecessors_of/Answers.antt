use Rattle.std.proofs.Common.{arith, rules, ◌<◌, length}
use Rattle.std.specs.List.{All}
use Rattle.fst_compile.specs.declared.edge.Edge.{Edge}
use Rattle.sequence_grids.proofs.SetLemmas.{targets_within}
use Rattle.sequence_grids.proofs.table.predecessors_of.Goals as goal

pub add_source-requires : goal.add_source-requires
add_source-requires g c =
    let within : All (λ (edge : Edge). edge.to.0 < length c.as_mut_slice.result.now) c.edges.result.now =
    targets_within c.args.fst.now.labels c.edges.result.now (length c.as_mut_slice.result.now) c.edges.ensures.labelled (omega (arith, c.as_mut_slice.ensures.len, c.loop-q.invariant.long)) in
    let width = c.requires.width in
    search rules
