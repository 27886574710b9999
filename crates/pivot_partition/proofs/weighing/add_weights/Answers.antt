use Rattle.std.proofs.Common.{◌+◌, ◌<◌, ◌^◌, ◌∙◌, length, get_or, refl, ap, arith, length-set}
use Rattle.std.specs.List.{slice_index}
use Rattle.mine_model.specs.Database.{sequence_at}
use Rattle.pivot_partition.specs.declared.pairs.Pair.{Pair}
use Rattle.pivot_partition.proofs.SeedLemmas.{weight-none, sums-more, sums-room}
use Rattle.pivot_partition.proofs.weighing.add_weights.Goals as goal

abbrev pub no_pair : Pair
no_pair = record { pivot = 0; sequence = 0 }

pub loop-pair-init : goal.loop-pair-init
loop-pair-init c = record {
  long = refl;
  added = λ pivot. omega (arith, weight-none c.args.job.now pivot);
}

pub overflow_add-sums : goal.overflow_add-sums
overflow_add-sums c =
    let room : slice_index c.loop-pair.sums (get_or c.args.pairs.now c.loop-pair.pair-index no_pair).pivot + c.weight.result < 2 ^ 64 =
    sums-room c.args.job.now c.args.sums.now c.loop-pair.sums c.args.pairs.now c.loop-pair.pair-index no_pair c.weight.result c.loop-pair-test.true
    (c.weight.ensures.weight ∙ ap (λ s. (sequence_at s (get_or c.args.pairs.now c.loop-pair.pair-index no_pair).sequence).weight) c.db-db.ensures.sequences)
    c.loop-pair.invariant.added c.requires.room in
    omega (arith, room)

pub loop-pair-preserved : goal.loop-pair-preserved
loop-pair-preserved c =
    let within : (get_or c.args.pairs.now c.loop-pair.pair-index no_pair).pivot < length c.loop-pair.sums =
    omega (arith, c.requires.pivots c.loop-pair.pair-index no_pair c.loop-pair-test.true, c.loop-pair.invariant.long) in
    record {
      long = length-set c.loop-pair.sums (get_or c.args.pairs.now c.loop-pair.pair-index no_pair).pivot _ ∙ c.loop-pair.invariant.long;
      added = sums-more c.args.job.now c.args.sums.now c.loop-pair.sums c.args.pairs.now c.loop-pair.pair-index no_pair c.weight.result c.loop-pair-test.true within
          (c.weight.ensures.weight ∙ ap (λ s. (sequence_at s (get_or c.args.pairs.now c.loop-pair.pair-index no_pair).sequence).weight) c.db-db.ensures.sequences)
          c.loop-pair.invariant.added;
    }
