use Rattle.std.proofs.Common.{◌<◌, ℕ, ◌+◌, ◌-◌, ◌/◌, ◌≤◌, arith}
use Rattle.pattern_proof.proofs.EdgeLemmas.{edge_before, edge_behind}
use Rattle.pattern_proof.proofs.checking.edge_to.Goals as goal

middle_in : (low high : ℕ) → low < high → low + (high - low) / 2 < high
middle_in low high below = omega arith

middle_from : (low high : ℕ) → low < high → low ≤ low + (high - low) / 2
middle_from low high below = omega arith

pub loop-low-preserved-then-found-to-2 : goal.loop-low-preserved-then-found-to-2
loop-low-preserved-then-found-to-2 c =
    let m : ℕ = c.loop-low.low + (c.loop-low.high - c.loop-low.low) / 2 in
    let inside : m < c.loop-low.high = middle_in c.loop-low.low c.loop-low.high c.loop-low-test.true in
    let range = c.loop-low.invariant.in_range in
    record {
      in_range = range;
      ordered = omega (arith, inside);
      below = λ k d lt. edge_before c.args.edges.now c.args.to.0 c.requires m k _ d (omega (arith, lt)) (omega (arith, inside, range)) c.if-found-to-2.true;
      above = c.loop-low.invariant.above;
    }

pub loop-low-preserved : goal.loop-low-preserved
loop-low-preserved c =
    let m : ℕ = c.loop-low.low + (c.loop-low.high - c.loop-low.low) / 2 in
    let inside : m < c.loop-low.high = middle_in c.loop-low.low c.loop-low.high c.loop-low-test.true in
    let range = c.loop-low.invariant.in_range in
    record {
      in_range = omega (arith, inside, range);
      ordered = middle_from c.loop-low.low c.loop-low.high c.loop-low-test.true;
      below = c.loop-low.invariant.below;
      above = λ k d from within. edge_behind c.args.edges.now c.args.to.0 c.requires m k _ d from within c.if-found-to.false c.if-found-to-2.false;
    }
