use Rattle.std.proofs.Common.{ℕ, List, subst}
use Rattle.worker_threads.specs.Doing.{AreDone}
use Rattle.worker_threads.proofs.DoingLemmas.{done-weaker}
use Rattle.candidate_pairs.proofs.TellingLemmas.{IsToldBy, number-below, all-told}
use Rattle.candidate_pairs.proofs.telling.told_by_all.Goals as goal

pub done_by_each-requires-after_bounds : goal.done_by_each-requires-after_bounds
done_by_each-requires-after_bounds g c κs within = number-below c.args.workers c.in_ok-numbers.numbers.items c.in_ok-numbers.ensures

pub returns : goal.returns
returns g c =
    let Does = IsToldBy c.args.job.now c.args.workers in
    let numbers : List ℕ = c.in_ok-numbers.numbers.items in
    let shares = c.in_ok-shares.shares.items in
    all-told c.args.job.now c.args.workers shares
    (subst (λ (ns : List ℕ). AreDone Does ns shares) c.in_ok-numbers.ensures
    (done-weaker _ Does (λ start done call. call) numbers shares c.in_ok-shares.ensures))
