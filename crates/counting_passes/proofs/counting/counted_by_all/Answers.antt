use denote.Param.Send.{sendable}
use Rattle.std.proofs.Common.{get_or}
use Rattle.std.proofs.lemmas.Option.{slice_get-get_or}
use Rattle.worker_threads.proofs.DoingLemmas.{done-weaker}
use Rattle.sieve_passes.proofs.CrossingLemmas.{share-send}
use Rattle.counting_passes.proofs.WorkerLemmas.{IsCountedOf, all-counted}
use Rattle.counting_passes.proofs.counting.counted_by_all.Goals as goal

pub done_by_each-requires-after_bounds : goal.done_by_each-requires-after_bounds
done_by_each-requires-after_bounds g c κs within = λ k d below.
    let shares = c.args.shares.items in
    ((k, (c.requires.1.each k (get_or shares k d) (slice_get-get_or shares k d below)).own), record { shared = c.type_bounds.sync-G.shared })

pub returns : goal.returns
returns g c =
    let Does = IsCountedOf c.args.job.now c.args.sieve.now c.args.workers in
    all-counted c.args.job.now c.args.sieve.now c.args.workers c.requires.0 c.args.shares.items c.in_ok-counts.counts.items c.requires.1
    (done-weaker _ Does (λ start done call. call) c.args.shares.items c.in_ok-counts.counts.items c.in_ok-counts.ensures)

pub done_by_each-requires-send-A : goal.done_by_each-requires-send-A
done_by_each-requires-send-A g c κs within = search (sendable, share-send) depth 10
