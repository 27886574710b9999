use Rattle.std.proofs.Common.{◌≡◌, ◌<◌, ◌∙◌, ◌+◌, [], List, ℕ, length, refl, sym, ap, subst, arith}
use Rattle.std.proofs.lemmas.List.{length-replicate}
use Rattle.mine_model.specs.declared.item.Item.{Item}
use Rattle.mine_model.specs.Support.{Sequence}
use Rattle.mining_job.specs.Problems.{data_of}
use Rattle.prefix_sieve.specs.Hashes.{hash_of}
use Rattle.worker_shares.specs.Shares.{sequences_at}
use Rattle.worker_shares.proofs.ShareLemmas.{numbers-few}
use Rattle.sieve_passes.specs.Sums.{HasAll}
use Rattle.sieve_passes.proofs.share.passed.Goals as goal

pub pass_over_all-requires-clause-few : goal.pass_over_all-requires-clause-few
pass_over_all-requires-clause-few g c κs within =
    let problem = c.args.job.now in
    let few = numbers-few c.args.workers c.args.share.worker (length problem.sequences) in
    let long : length c.as_slice.result.now ≡ length c.args.share.numbers.items = ap length c.as_slice.ensures.value in
    let same = ap length c.requires.numbers in
    let whole : length c.db.result.now ≡ length problem.sequences = ap length c.db.ensures.sequences in
    omega (arith, few, long, same, whole, c.sequences-few.ensures.count)

pub returns : goal.returns
returns g c =
    let problem = c.args.job.now in
    let levels = c.args.sieve.now in
    record {
      own = record { number = refl; numbers = c.requires.numbers; part = c.pass_over_all.ensures.part ∙ c.requires.part };
      long = c.pass_over_all.ensures.long ∙ ap length c.clear.ensures ∙ length-replicate (length c.args.share.buckets) 0;
      has = subst (λ (ns : List ℕ). HasAll problem levels (sequences_at problem.sequences ns) c.pass_over_all.new.buckets) (c.as_slice.ensures.value ∙ c.requires.numbers)
          (c.in_ok-pass_over_all.ensures.added [] (c.one_more_sequence.ensures.none (data_of problem) problem.ranking.order hash_of levels (length levels + 1) c.clear.new.self));
    }
