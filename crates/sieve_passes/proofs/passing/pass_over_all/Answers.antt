use Rattle.std.proofs.Common.{◌≡◌, ◌∙◌, ◌+◌, ◌<◌, ◌≤◌, ℕ, [], ◌∷◌, ◌++◌, List, length, take, refl, sym, ap, arith, slice_index}
use Rattle.mine_model.specs.declared.item.Item.{Item}
use Rattle.mine_model.specs.Database.{sequence_at}
use Rattle.mine_model.specs.Support.{Sequence}
use Rattle.worker_shares.specs.Shares.{sequences_at}
use Rattle.worker_shares.proofs.ShareLemmas.{sequences-more, sequences-all}
use Rattle.sieve_passes.proofs.PartLemmas.{part-again, part-whole, part-index, part-weight, part-adds}
use Rattle.sieve_passes.proofs.SumLemmas.{adds-none, adds-both, adds-same}
use Rattle.sieve_passes.proofs.passing.pass_over_all.Goals as goal

pub loop-index-init : goal.loop-index-init
loop-index-init g c = record {
  part = c.requires.part;
  long = refl;
  added = adds-none c.args.job.now c.args.sieve.now [] c.args.buckets.now refl;
}

pub pass_over-requires-clause-whole : goal.pass_over-requires-clause-whole
pass_over-requires-clause-whole g c = part-whole c.loop-index.branches.part c.args.job.now c.args.numbers.now c.loop-index.invariant.part c.db-db.ensures.whole

pub pass_over-requires-clause-part : goal.pass_over-requires-clause-part
pass_over-requires-clause-part g c = part-again c.loop-index.branches.part c.args.job.now c.args.numbers.now c.loop-index.invariant.part

pub pass_over-requires-clause-index : goal.pass_over-requires-clause-index
pass_over-requires-clause-index g c =
    part-index c.loop-index.branches.part c.args.job.now c.args.numbers.now c.loop-index.invariant.part c.loop-index.index c.loop-index-test.true

pub pass_over-requires-clause-weight : goal.pass_over-requires-clause-weight
pass_over-requires-clause-weight g c =
    let number = slice_index c.args.numbers.now c.loop-index.index in
    part-weight c.loop-index.branches.part c.args.job.now c.args.numbers.now c.loop-index.invariant.part c.loop-index.index number c.weight-weight.result refl
    (c.weight-weight.ensures.weight ∙ ap (λ (ss : List (Sequence Item)). (sequence_at ss number).weight) c.db-db.ensures.sequences)

pub loop-index-preserved : goal.loop-index-preserved
loop-index-preserved g c =
    let problem = c.args.job.now in
    let numbers = c.args.numbers.now in
    let index = c.loop-index.index in
    let number = slice_index numbers index in
    record {
      part = c.pass_over.ensures.part ∙ c.loop-index.invariant.part;
      long = c.pass_over.ensures.long ∙ c.loop-index.invariant.long;
      added = adds-both problem c.args.sieve.now (sequences_at problem.sequences (take index numbers)) (sequence_at problem.sequences number ∷ [])
          (sequences_at problem.sequences (take (index + 1) numbers)) c.args.buckets.now c.loop-index.buckets c.pass_over.new.buckets
          (sequences-more problem.sequences numbers index c.loop-index-test.true) c.loop-index.invariant.added
          (part-adds c.loop-index.branches.part problem numbers c.loop-index.invariant.part index number c.args.sieve.now c.loop-index.buckets c.pass_over.new.buckets refl c.in_ok-pass_over.ensures.added);
    }

pub returns-clause-added : goal.returns-clause-added
returns-clause-added g c =
    let problem = c.args.job.now in
    let most : length c.args.numbers.now ≤ c.loop-index.index = omega (arith, c.loop-index-test.false) in
    adds-same problem c.args.sieve.now (sequences_at problem.sequences (take c.loop-index.index c.args.numbers.now)) (sequences_at problem.sequences c.args.numbers.now) c.args.buckets.now c.loop-index.buckets
    (sequences-all problem.sequences c.args.numbers.now c.loop-index.index most) c.loop-index.invariant.added
