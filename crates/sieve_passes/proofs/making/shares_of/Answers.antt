use denote.Param.Send.{sendable}
use Rattle.std.proofs.Common.{◌^◌, ℕ, List, subst}
use Rattle.worker_threads.specs.Doing.{AreDone}
use Rattle.worker_threads.proofs.DoingLemmas.{done-weaker}
use Rattle.sieve_passes.specs.Shares.{IsShareWith}
use Rattle.sieve_passes.proofs.CrossingLemmas.{share-send}
use Rattle.sieve_passes.proofs.WorkerLemmas.{numbers-below, shares-entered}
use Rattle.sieve_passes.proofs.making.shares_of.Goals as goal

pub done_by_each-requires-after_bounds : goal.done_by_each-requires-after_bounds
done_by_each-requires-after_bounds g c κs within = λ k d below.
    (numbers-below c.args.workers c.in_ok-numbers.numbers.items c.in_ok-numbers.ensures k d below, (c.requires.least, c.requires.most))

pub returns : goal.returns
returns g c =
    let Does = IsShareWith c.args.job.now c.args.workers (2 ^ c.args.bits) in
    let numbers = c.in_ok-numbers.numbers.items in
    let shares = c.in_ok-shares.shares.items in
    shares-entered c.args.job.now c.args.workers (2 ^ c.args.bits) shares
    (subst (λ (ns : List ℕ). AreDone Does ns shares) c.in_ok-numbers.ensures
    (done-weaker _ Does (λ start done call. call) numbers shares c.in_ok-shares.ensures))

pub done_by_each-requires-send-B : goal.done_by_each-requires-send-B
done_by_each-requires-send-B g c κs within = search (sendable, share-send) depth 10
