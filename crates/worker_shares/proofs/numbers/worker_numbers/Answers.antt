use Rattle.std.proofs.Common.{◌∙◌, ◌+◌, ◌++◌, ◌∷◌, [], sym, ap, arith, ◌≡◌}
use Rattle.std.specs.List.{range_with_len}
use Rattle.worker_shares.proofs.NumberLemmas.{range-more}
use Rattle.worker_shares.proofs.numbers.worker_numbers.Goals as goal

pub loop-worker-preserved : goal.loop-worker-preserved
loop-worker-preserved c =
    c.in_ok-push.ensures.items ∙ ap (λ ns. ns ++ c.loop-worker.worker ∷ []) c.loop-worker.invariant ∙ sym (range-more c.loop-worker.worker)

pub returns : goal.returns
returns c =
    let all : c.loop-worker.worker ≡ c.args.workers = omega (arith, c.loop-worker-test.false, c.loop-worker.auto.worker-end) in
    c.loop-worker.invariant ∙ ap (range_with_len 0) all
