use Rattle.std.proofs.Common.{◌≡◌, ◌++◌, ◌∙◌, ◌<◌, ℕ, length, get_or, set, take, ap, arith, subst}
use Rattle.std.specs.Global.{Vec}
use Rattle.std.proofs.lemmas.List.{take_all, length-set}
use Rattle.pivot_partition.specs.declared.pairs.Pair.{Pair}
use Rattle.pivot_partition.specs.Pairs.{AreLists}
use Rattle.pivot_partition.proofs.SeedLemmas.{lists-push, lists-pass, lists-next}
use Rattle.pivot_partition.proofs.splitting.file.Goals.{then-sums-pivot+in_ok-push, else-sums-pivot}
use Rattle.pivot_partition.proofs.splitting.file.Goals as goal

abbrev pub no_pair : Pair
no_pair = record { pivot = 0; sequence = 0 }

pub loop-pair-preserved : goal.loop-pair-preserved
loop-pair-preserved c = elim c.if-sums-pivot.branch [
  | then-sums-pivot+in_ok-push w ↦
      let within : (get_or c.args.pairs.now c.loop-pair.pair-index no_pair).pivot < length c.loop-pair.lists.items =
      omega (arith, c.requires.pivots c.loop-pair.pair-index no_pair c.loop-pair-test.true, c.loop-pair.invariant.long) in
      let lists : c.if-sums-pivot.lists.items ≡ set c.loop-pair.lists.items (get_or c.args.pairs.now c.loop-pair.pair-index no_pair).pivot w.push.new.self =
      ap (λ (v : Vec (Vec ℕ)). v.items) w.lists-is in
      record {
        long = rw lists (length-set c.loop-pair.lists.items (get_or c.args.pairs.now c.loop-pair.pair-index no_pair).pivot w.push.new.self ∙ c.loop-pair.invariant.long);
        filed = λ done are. rw lists
            (lists-next c.args.threshold c.args.sums.now done c.args.pairs.now c.loop-pair.pair-index no_pair
            (set c.loop-pair.lists.items (get_or c.args.pairs.now c.loop-pair.pair-index no_pair).pivot w.push.new.self) c.loop-pair-test.true
            (lists-push c.args.threshold c.args.sums.now (done ++ take c.loop-pair.pair-index c.args.pairs.now) c.loop-pair.lists.items
            (get_or c.args.pairs.now c.loop-pair.pair-index no_pair) w.push.new.self w.index_mut.result.now within w.index_mut.ensures.value w.in_ok-push.ensures.items
            (c.loop-pair.invariant.filed done are)));
      }
  | else-sums-pivot w ↦ record {
    long = rw w.lists-is c.loop-pair.invariant.long;
    filed = λ done are. rw w.lists-is
        (lists-next c.args.threshold c.args.sums.now done c.args.pairs.now c.loop-pair.pair-index no_pair c.loop-pair.lists.items c.loop-pair-test.true
        (lists-pass c.args.threshold c.args.sums.now (done ++ take c.loop-pair.pair-index c.args.pairs.now) c.loop-pair.lists.items (get_or c.args.pairs.now c.loop-pair.pair-index no_pair)
        w.if-sums-pivot.false (c.loop-pair.invariant.filed done are)));
  }
]

pub returns-clause-filed : goal.returns-clause-filed
returns-clause-filed c = λ done are.
    subst (λ l. AreLists c.args.threshold c.args.sums.now (done ++ l) c.loop-pair.lists.items) (take_all c.loop-pair.pair-index c.args.pairs.now c.loop-pair-test.false) (c.loop-pair.invariant.filed done are)
