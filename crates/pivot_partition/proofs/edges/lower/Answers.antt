use Rattle.std.proofs.Common.{◌+◌, ◌<◌, ◌∙◌, length, get_or, set, take, refl, sym, subst, arith, length-set}
use Rattle.pivot_partition.proofs.EdgeLemmas.{no_edge, AreLowered, lowered-none, lowered-more, lowered-all}
use Rattle.pivot_partition.proofs.edges.lower.Goals as goal

pub loop-edge-init : goal.loop-edge-init
loop-edge-init c = record { long = refl; lowered = lowered-none c.args.entered.now c.args.top }

pub loop-edge-preserved : goal.loop-edge-preserved
loop-edge-preserved c =
    let within : (get_or c.args.edges.now c.loop-edge.edge-index no_edge).to.0 < length c.loop-edge.entered =
    omega (arith, c.requires c.loop-edge.edge-index no_edge c.loop-edge-test.true, c.loop-edge.invariant.long) in
    record {
      long = length-set c.loop-edge.entered (get_or c.args.edges.now c.loop-edge.edge-index no_edge).to.0 c.min.result ∙ c.loop-edge.invariant.long;
      lowered = subst (λ n. AreLowered c.args.entered.now c.args.top (take (c.loop-edge.edge-index + 1) c.args.edges.now) (set c.loop-edge.entered (get_or c.args.edges.now c.loop-edge.edge-index no_edge).to.0 n))
          (sym c.min.ensures)
          (lowered-more c.args.entered.now c.loop-edge.entered c.args.top c.args.edges.now c.loop-edge.edge-index no_edge c.loop-edge-test.true within c.loop-edge.invariant.lowered);
    }

pub returns-clause-least : goal.returns-clause-least
returns-clause-least c = lowered-all c.args.entered.now c.loop-edge.entered c.args.top c.args.edges.now c.loop-edge.edge-index c.loop-edge-test.false c.loop-edge.invariant.lowered
