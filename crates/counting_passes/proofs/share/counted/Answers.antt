use Rattle.std.proofs.Common.{◌≡◌, ◌≤◌, ◌∙◌, ℕ, List, length, sym, ap, subst, arith}
use Rattle.worker_shares.proofs.ShareLemmas.{numbers-few}
use Rattle.counting_passes.proofs.share.counted.Goals as goal

pub count_all-requires-clause-few : goal.count_all-requires-clause-few
count_all-requires-clause-few g c κs within =
    let (worker, is) = c.requires in
    let problem = c.args.job.now in
    let few = numbers-few c.args.workers worker (length problem.sequences) in
    let same = ap length (c.as_slice.ensures.value ∙ c.into_parts-worker.ensures.sequences ∙ is.numbers) in
    omega (arith, few, same)
