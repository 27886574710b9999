use Rattle.std.proofs.Common.{◌∙◌, get_or, refl, arith}
use Rattle.std.proofs.lemmas.List.Elements.{Contains-get_or}
use Rattle.pivot_partition.proofs.EdgeLemmas.{spread-none, spread-pass, spread-more, spread-all}
use Rattle.pivot_partition.proofs.edges.spread.Goals.{then-top, else-top}
use Rattle.pivot_partition.proofs.edges.spread.Goals as goal

pub loop-state-init : goal.loop-state-init
loop-state-init c = record {
  long = c.clear.ensures.long;
  spread = spread-none c.args.fst.now c.args.front.now c.clear.new.row (λ k below. c.clear.ensures.none k (omega (arith, below, c.clear.ensures.long))) (c.clear.ensures.long ∙ c.requires.entered);
}

pub lower-requires : goal.lower-requires
lower-requires c = λ k d below.
    let enters = c.edges.ensures.labelled (get_or c.edges.result.now k d) (Contains-get_or c.edges.result.now k d below) in
    omega (arith, enters.to, enters.within, c.loop-state.invariant.long, c.requires.entered)

pub loop-state-preserved : goal.loop-state-preserved
loop-state-preserved c = elim c.if-top.branch [
  | then-top w ↦ record {
    long = rw w.entered-is (w.lower.ensures.long ∙ c.loop-state.invariant.long);
    spread = rw w.entered-is (spread-more c.args.fst.now c.args.front.now c.loop-state.state c.loop-state.entered c.loop-state.invariant.spread w.lower.new.entered w.edges.result.now
        (get_or c.args.front.now c.loop-state.state 0) refl w.edges.ensures.edges w.lower.ensures.least);
  }
  | else-top w ↦ record {
    long = rw w.entered-is c.loop-state.invariant.long;
    spread = rw w.entered-is (spread-pass c.args.fst.now c.args.front.now c.loop-state.state c.loop-state.entered c.loop-state.invariant.spread w.if-top.false);
  }
]

pub returns-clause-least : goal.returns-clause-least
returns-clause-least c = spread-all c.args.fst.now c.args.front.now c.loop-state.state c.loop-state.entered (omega (arith, c.loop-state-test.false, c.loop-state.auto.state-end, c.states-state-end.ensures.states)) c.loop-state.invariant.spread
