use Rattle.std.proofs.Common.{◌≡◌, ◌+◌, ◌∙◌, length, replicate, get_or, sym, ap, subst, arith, rules}
use Rattle.std.specs.List.{slice_index, Contains}
use Rattle.std.proofs.lemmas.List.Elements.{Contains-get_or}
use Rattle.std.proofs.lemmas.List.{length-replicate}
use Rattle.mine_model.specs.Ranks.{Ranking}
use Rattle.mine_model.proofs.ListLemmas.{written_back}
use Rattle.mine_model.proofs.RankLemmas.{zeros-everywhere}
use Rattle.pivot_partition.specs.Pairs.{all_of, weight_with}
use Rattle.pivot_partition.proofs.SeedLemmas.{weight-none, weight-most, parts-held, parts-weight, parts-sums}
use Rattle.pivot_partition.proofs.weighing.weights.Goals as goal

pub loop-part-init : goal.loop-part-init
loop-part-init c =
    let zeros : c.in_ok-sums.sums.items ≡ replicate (c.count-top.result + 1) 0 = search rules in
    record {
      long = ap length zeros ∙ length-replicate (c.count-top.result + 1) 0 ∙ ap (λ n. n + 1) (c.count-top.ensures.count ∙ ap (λ (r : Ranking). length r.order) c.ranks.ensures.ranking);
      weights = λ pivot. zeros-everywhere c.in_ok-sums.sums.items (c.count-top.result + 1) zeros pivot ∙ sym (weight-none c.args.job.now pivot);
    }

pub add_weights-requires-clause-pivots : goal.add_weights-requires-clause-pivots
add_weights-requires-clause-pivots c = λ k d inside.
    let held = parts-held c.args.parts.now c.loop-part.part-index c.part-item.result (get_or c.as_slice.result.now k d) c.loop-part-test.true c.part-item.is
    (subst (λ l. Contains l (get_or c.as_slice.result.now k d)) c.as_slice.ensures.value (Contains-get_or c.as_slice.result.now k d inside)) in
    let (low, high, is) = (c.requires.exact (get_or c.as_slice.result.now k d)).0 held in
    omega (arith, is.most, c.loop-part.invariant.long, ap length c.as_mut_slice.ensures.value)

pub add_weights-requires-clause-sequences : goal.add_weights-requires-clause-sequences
add_weights-requires-clause-sequences c = λ k d inside.
    let held = parts-held c.args.parts.now c.loop-part.part-index c.part-item.result (get_or c.as_slice.result.now k d) c.loop-part-test.true c.part-item.is
    (subst (λ l. Contains l (get_or c.as_slice.result.now k d)) c.as_slice.ensures.value (Contains-get_or c.as_slice.result.now k d inside)) in
    let (low, high, is) = (c.requires.exact (get_or c.as_slice.result.now k d)).0 held in
    omega (arith, high)

pub add_weights-requires-clause-room : goal.add_weights-requires-clause-room
add_weights-requires-clause-room c = λ pivot.
    let most = weight-most c.args.job.now (all_of c.args.parts.now) c.requires (rw c.db.ensures.sequences at c.sequences-sequences.ensures.limits)
    (omega (arith, c.sequences-sequences.ensures.count, c.sequences-sequences.ensures.most, ap length c.db.ensures.sequences)) pivot in
    let part = parts-weight c.args.job.now c.args.parts.now c.loop-part.part-index c.part-item.result pivot c.loop-part-test.true c.part-item.is in
    let were = c.loop-part.invariant.weights pivot in
    let same : slice_index c.as_mut_slice.result.now pivot ≡ slice_index c.loop-part.sums.items pivot = ap (λ l. slice_index l pivot) c.as_mut_slice.ensures.value in
    let one : weight_with c.args.job.now pivot c.as_slice.result.now ≡ weight_with c.args.job.now pivot c.part-item.result.items = ap (weight_with c.args.job.now pivot) c.as_slice.ensures.value in
    omega (arith, most, part, were, same, one)

pub loop-part-preserved : goal.loop-part-preserved
loop-part-preserved c =
    let back = written_back c.add_weights.new.sums c.loop-part.sums.items c.loop-part.sums.len (omega (arith, c.loop-part.sums.ok.0, c.add_weights.ensures.long, ap length c.as_mut_slice.ensures.value)) in
    record {
      long = ap length back ∙ c.add_weights.ensures.long ∙ ap length c.as_mut_slice.ensures.value ∙ c.loop-part.invariant.long;
      weights = rw back (parts-sums c.args.job.now c.args.parts.now c.loop-part.part-index c.part-item.result c.loop-part.sums.items c.add_weights.new.sums c.loop-part-test.true c.part-item.is c.loop-part.invariant.weights
          (λ pivot.
          let added = c.add_weights.ensures.added pivot in
          let same : slice_index c.as_mut_slice.result.now pivot ≡ slice_index c.loop-part.sums.items pivot = ap (λ l. slice_index l pivot) c.as_mut_slice.ensures.value in
          let one : weight_with c.args.job.now pivot c.as_slice.result.now ≡ weight_with c.args.job.now pivot c.part-item.result.items = ap (weight_with c.args.job.now pivot) c.as_slice.ensures.value in
          omega (arith, added, same, one)));
    }
