use Rattle.std.proofs.Common.{◌≡◌, length, arith}
use Rattle.worker_threads.proofs.DoingLemmas.{done-by_place}
use Rattle.worker_threads.proofs.threads.tried.Goals as goal

pub returns : goal.returns
returns g c =
    let starts = c.args.starts.items in
    let results = c.in_ok-results.results.items in
    let many : length results ≡ length starts = omega (arith, c.in_ok-results.ensures.len, c.in_ok-results.results.ok.0, c.args.starts.ok.0) in
    done-by_place _ starts results many
    (λ k d within. let gives = (c.in_ok-results.ensures.each k d within).1 in (gives.job, gives.job_is gives.job, gives.call.met))
