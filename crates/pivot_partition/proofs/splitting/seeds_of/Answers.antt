use Rattle.std.proofs.Common.{◌≡◌, ◌+◌, ◌++◌, ◌∙◌, get_or, take, sym, ap, subst, arith}
use Rattle.std.specs.List.{Contains}
use Rattle.std.proofs.lemmas.List.Elements.{Contains-get_or}
use Rattle.pivot_partition.specs.Pairs.{AreLists, all_of}
use Rattle.pivot_partition.proofs.SeedLemmas.{lists-none, parts-held, parts-next}
use Rattle.pivot_partition.proofs.splitting.seeds_of.Goals as goal

pub loop-part-init : goal.loop-part-init
loop-part-init c = record {
  long = omega (arith, c.in_ok-push_empty.ensures.long, c.len.ensures, c.in_ok-sums.sums.ok.0);
  filed = lists-none c.threshold-threshold.result c.in_ok-sums.sums.items c.push_empty.new.lists.items c.in_ok-push_empty.ensures.empty;
}

pub file-requires-clause-pivots : goal.file-requires-clause-pivots
file-requires-clause-pivots c = λ k d inside.
    let held = parts-held c.args.parts.now c.loop-part.part-index c.part-item.result (get_or c.as_slice.result.now k d) c.loop-part-test.true c.part-item.is
    (subst (λ l. Contains l (get_or c.as_slice.result.now k d)) c.as_slice.ensures.value (Contains-get_or c.as_slice.result.now k d inside)) in
    let (low, high, is) = (c.requires.exact (get_or c.as_slice.result.now k d)).0 held in
    omega (arith, is.most, c.loop-part.invariant.long, c.in_ok-sums.ensures.long)

pub loop-part-preserved : goal.loop-part-preserved
loop-part-preserved c =
    let next : all_of (take (c.loop-part.part-index + 1) c.args.parts.now) ≡ all_of (take c.loop-part.part-index c.args.parts.now) ++ c.as_slice.result.now =
    parts-next c.args.parts.now c.loop-part.part-index c.part-item.result c.loop-part-test.true c.part-item.is ∙ ap (λ l. all_of (take c.loop-part.part-index c.args.parts.now) ++ l) (sym c.as_slice.ensures.value) in
    let sums = c.as_slice-in-loop-part.ensures.value in
    record {
      long = c.file.ensures.long ∙ c.loop-part.invariant.long;
      filed = subst (λ l. AreLists c.threshold-threshold.result c.in_ok-sums.sums.items l c.file.new.lists.items) (sym next)
          (subst (λ l. AreLists c.threshold-threshold.result l (all_of (take c.loop-part.part-index c.args.parts.now) ++ c.as_slice.result.now) c.file.new.lists.items) sums
          (c.in_ok-file.ensures.filed (all_of (take c.loop-part.part-index c.args.parts.now))
          (subst (λ l. AreLists c.threshold-threshold.result l (all_of (take c.loop-part.part-index c.args.parts.now)) c.loop-part.lists.items) (sym sums) c.loop-part.invariant.filed)));
    }
