use Rattle.std.proofs.Common.{◌<◌, ℕ, ◌+◌, ◌-◌, ◌/◌, length, get_or, arith, refl, ◌∙◌}
use Rattle.std.proofs.lemmas.List.{get_or_default}
use Rattle.mine_model.proofs.AncestryLemmas.{Item-same, RisesBefore, RisesBehind}
use Rattle.mine_model.proofs.hierarchy.holds.Goals as goal

middle_in : (low high : ℕ) → low < high → low + (high - low) / 2 < high
middle_in low high below = omega arith

pub returns-then-found-w : goal.returns-then-found-w
returns-then-found-w c =
    let m : ℕ = c.loop-low.low + (c.loop-low.high - c.loop-low.low) / 2 in
    let below : m < length c.args.list.now = omega (arith, middle_in c.loop-low.low c.loop-low.high c.loop-low-test.true) in
    (λ _. (m, below, get_or_default c.args.list.now m c.args.w (record { 0 = 0 }) below ∙ Item-same _ c.args.w c.if-found-w.true), λ _. refl)

pub loop-low-preserved-then-found-w-2 : goal.loop-low-preserved-then-found-w-2
loop-low-preserved-then-found-w-2 c =
    let m : ℕ = c.loop-low.low + (c.loop-low.high - c.loop-low.low) / 2 in
    let inside : m < c.loop-low.high = middle_in c.loop-low.low c.loop-low.high c.loop-low-test.true in
    record {
      in_range = omega arith;
      below = λ k d lt. RisesBefore c.args.list.now c.args.w.0 c.requires m k d (omega arith) (omega arith) c.if-found-w-2.true;
      above = c.loop-low.invariant.above;
    }

pub loop-low-preserved : goal.loop-low-preserved
loop-low-preserved c =
    let m : ℕ = c.loop-low.low + (c.loop-low.high - c.loop-low.low) / 2 in
    let inside : m < c.loop-low.high = middle_in c.loop-low.low c.loop-low.high c.loop-low-test.true in
    let more : c.args.w.0 < (get_or c.args.list.now m (record { 0 = 0 })).0 = omega (arith, c.if-found-w.false, c.if-found-w-2.false) in
    record {
      in_range = omega arith;
      below = c.loop-low.invariant.below;
      above = λ k d from within. RisesBehind c.args.list.now c.args.w.0 c.requires m k d from within more;
    }
