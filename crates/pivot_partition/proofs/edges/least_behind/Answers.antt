use Rattle.std.proofs.Common.{refl, get_or}
use Rattle.std.specs.List.{slice_index}
use Rattle.fst_compile.specs.declared.edge.Edge.{Edge}
use Rattle.pivot_partition.proofs.LeastLemmas.{least-none, least-more, least-all}
use Rattle.pivot_partition.proofs.EdgeLemmas.{no_edge}
use Rattle.pivot_partition.proofs.edges.least_behind.Goals as goal

pub loop-edge-init : goal.loop-edge-init
loop-edge-init c = least-none (λ (edge : Edge). slice_index c.args.entered.now edge.to.0) 4294967295 refl

pub loop-edge-preserved : goal.loop-edge-preserved
loop-edge-preserved c =
    least-more (λ (edge : Edge). slice_index c.args.entered.now edge.to.0) c.args.edges.now c.loop-edge.edge-index c.loop-edge.least c.min-least.result
    (get_or c.args.edges.now c.loop-edge.edge-index no_edge) no_edge c.loop-edge-test.true refl c.min-least.ensures c.loop-edge.invariant

pub returns : goal.returns
returns c = least-all (λ (edge : Edge). slice_index c.args.entered.now edge.to.0) c.args.edges.now c.loop-edge.edge-index c.loop-edge.least c.loop-edge-test.false c.loop-edge.invariant
