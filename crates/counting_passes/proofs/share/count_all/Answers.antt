use Rattle.std.proofs.Common.{◌≡◌, ◌∙◌, ◌+◌, ◌*◌, ◌<◌, ◌≤◌, ℕ, [], ◌∷◌, ◌++◌, List, length, take, refl, sym, ap, subst, arith, slice_index}
use Rattle.mine_model.specs.declared.item.Item.{Item}
use Rattle.mine_model.specs.Database.{sequence_at}
use Rattle.mine_model.specs.Support.{Sequence}
use Rattle.worker_shares.specs.Shares.{sequences_at}
use Rattle.worker_shares.proofs.ShareLemmas.{sequences-more, sequences-all}
use Rattle.sieve_passes.proofs.PartLemmas.{part-again, part-whole, part-index, part-weight}
use Rattle.counting_passes.specs.Counts.{AreSumsOf}
use Rattle.counting_passes.proofs.PartLemmas.{part-number, part-counts}
use Rattle.counting_passes.proofs.share.count_all.Goals as goal

pub loop-index-init : goal.loop-index-init
loop-index-init g c = record { part = c.requires.part; sums = c.requires.nothing }

pub count_next-requires-clause-whole : goal.count_next-requires-clause-whole
count_next-requires-clause-whole g c = part-whole c.loop-index.branches.part c.args.job.now c.args.numbers.now c.loop-index.invariant.part c.db-db.ensures.whole

pub count_next-requires-clause-part : goal.count_next-requires-clause-part
count_next-requires-clause-part g c = part-again c.loop-index.branches.part c.args.job.now c.args.numbers.now c.loop-index.invariant.part

pub count_next-requires-clause-index : goal.count_next-requires-clause-index
count_next-requires-clause-index g c =
    part-index c.loop-index.branches.part c.args.job.now c.args.numbers.now c.loop-index.invariant.part c.loop-index.index c.loop-index-test.true

pub count_next-requires-clause-weight : goal.count_next-requires-clause-weight
count_next-requires-clause-weight g c =
    let number = slice_index c.args.numbers.now c.loop-index.index in
    part-weight c.loop-index.branches.part c.args.job.now c.args.numbers.now c.loop-index.invariant.part c.loop-index.index number c.weight-weight.result refl
    (c.weight-weight.ensures.weight ∙ ap (λ (ss : List (Sequence Item)). (sequence_at ss number).weight) c.db-db.ensures.sequences)

pub count_next-requires-clause-longest : goal.count_next-requires-clause-longest
count_next-requires-clause-longest g c =
    let number = slice_index c.args.numbers.now c.loop-index.index in
    part-number c.loop-index.branches.part c.args.job.now c.args.numbers.now c.loop-index.invariant.part (λ sequence. length sequence.items) c.loop-index.index number (length c.sequence-longest.result.now) refl
    (ap length c.sequence-longest.ensures.items ∙ ap (λ (ss : List (Sequence Item)). length (sequence_at ss number).items) c.db-db.ensures.sequences)

pub loop-index-preserved : goal.loop-index-preserved
loop-index-preserved g c =
    let problem = c.args.job.now in
    let numbers = c.args.numbers.now in
    let index = c.loop-index.index in
    let number = slice_index numbers index in
    record {
      part = c.count_next.ensures.part ∙ c.loop-index.invariant.part;
      sums = subst (λ (ss : List (Sequence Item)). AreSumsOf problem c.args.sieve.now ss c.count_next.new.counts) (sym (sequences-more problem.sequences numbers index c.loop-index-test.true))
          (part-counts c.loop-index.branches.part problem numbers c.loop-index.invariant.part index number c.args.sieve.now c.loop-index.counts c.count_next.new.counts refl c.in_ok-count_next.ensures.counted
          (sequences_at problem.sequences (take index numbers)) c.loop-index.invariant.sums);
    }
