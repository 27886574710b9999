use denote.Param.Send.{sendable}
use Rattle.std.proofs.Common.{get_or}
use Rattle.std.proofs.lemmas.Option.{slice_get-get_or}
use Rattle.worker_threads.specs.Doing.{AreDone}
use Rattle.worker_threads.proofs.DoingLemmas.{done-weaker}
use Rattle.sieve_passes.specs.declared.share.Share.{Share}
use Rattle.sieve_passes.specs.Shares.{IsPassedBy}
use Rattle.sieve_passes.proofs.CrossingLemmas.{share-send}
use Rattle.sieve_passes.proofs.WorkerLemmas.{shares-passed, have-all, share-own}
use Rattle.sieve_passes.proofs.making.passed_by_all.Goals.{In_ok-shares}
use Rattle.sieve_passes.proofs.making.passed_by_all.Goals as goal

-- what each worker gave back
done : (g : _) (c : In_ok-shares g) → AreDone (IsPassedBy c.args.job.now c.args.sieve.now c.args.workers) c.args.shares.items c.in_ok-shares.shares.items
done g c = done-weaker _ (λ (start : Share). IsPassedBy c.args.job.now c.args.sieve.now c.args.workers start) (λ start done call. call) c.args.shares.items c.in_ok-shares.shares.items c.in_ok-shares.ensures

pub done_by_each-requires-after_bounds : goal.done_by_each-requires-after_bounds
done_by_each-requires-after_bounds g c κs within = λ k d below.
    let shares = c.args.shares.items in
    (share-own c.args.job.now c.args.workers c.requires.0 shares c.requires.1 k (get_or shares k d) (slice_get-get_or shares k d below), record { shared = c.type_bounds.sync-G.shared })

pub returns-clause-shares : goal.returns-clause-shares
returns-clause-shares g c =
    let a = (goal.at.returns-clause-shares g c).In_ok-shares in
    shares-passed c.args.job.now c.args.sieve.now c.args.workers c.args.shares.items c.in_ok-shares.shares.items (done g a)

pub returns-clause-all : goal.returns-clause-all
returns-clause-all g c =
    let a = (goal.at.returns-clause-all g c).In_ok-shares in
    have-all c.args.job.now c.args.sieve.now c.args.workers c.args.shares.items c.in_ok-shares.shares.items (done g a) c.requires.0 c.requires.1

pub done_by_each-requires-send-A : goal.done_by_each-requires-send-A
done_by_each-requires-send-A g c κs within = search (sendable, share-send) depth 10

pub done_by_each-requires-send-B : goal.done_by_each-requires-send-B
done_by_each-requires-send-B g c κs within = search (sendable, share-send) depth 10
