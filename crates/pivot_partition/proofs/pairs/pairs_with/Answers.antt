use Rattle.std.proofs.Common.{◌≡◌, ◌++◌, ◌+◌, ◌∙◌, map, ap, arith, subst, sym}
use Rattle.pivot_partition.specs.Pairs.{ArePairs}
use Rattle.pivot_partition.proofs.PairLemmas.{pair_of, pairs-one, pairs-append}
use Rattle.pivot_partition.proofs.pairs.pairs_with.Goals as goal

pub loop-sequence-preserved : goal.loop-sequence-preserved
loop-sequence-preserved c =
    let is = c.loop-sequence.invariant in
    let fill = rw is.same at c.in_ok-fill.ensures in
    record {
      same = c.fill.ensures.same ∙ is.same;
      pairs = subst (ArePairs c.args.pivots.now c.args.from (c.loop-sequence.sequence + 1))
          (sym (c.in_ok-push_pairs.ensures ∙ ap (λ l. c.loop-sequence.pairs.items ++ map (pair_of c.loop-sequence.sequence) l) c.as_slice.ensures.value))
          (pairs-append c.args.pivots.now c.args.from c.loop-sequence.sequence (c.loop-sequence.sequence + 1) c.loop-sequence.pairs.items
          (map (pair_of c.loop-sequence.sequence) c.fill.new.found.items) c.loop-sequence.auto.sequence (omega arith) is.pairs
          (pairs-one c.args.pivots.now c.loop-sequence.sequence c.fill.new.found.items fill.once fill.exact));
    }

pub returns : goal.returns
returns c =
    let done : c.loop-sequence.sequence ≡ c.args.to = omega (arith, c.loop-sequence-test.false, c.loop-sequence.auto.sequence-end c.requires.rises) in
    subst (λ n. ArePairs c.args.pivots.now c.args.from n c.loop-sequence.pairs.items) done c.loop-sequence.invariant.pairs
