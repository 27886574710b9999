use Rattle.std.proofs.Common.{◌≡◌, ◌<◌, ◌∙◌, ◌++◌, ◌∷◌, [], ℕ, List, length, sym, ap, subst, arith}
use Rattle.std.specs.List.{AllByRecursion, AllPairs}
use Rattle.worker_shares.specs.Shares.{numbers_of}
use Rattle.worker_shares.proofs.NumberLemmas.{numbers-with, numbers-without, numbers-rising, numbers-within}
use Rattle.worker_shares.proofs.numbers.numbers_of.Goals as goal

pub loop-number-preserved-then-number-workers : goal.loop-number-preserved-then-number-workers
loop-number-preserved-then-number-workers c =
    c.loop-number.invariant ∙ sym (numbers-without c.args.workers c.args.worker c.loop-number.number c.if-number-workers.true)

pub loop-number-preserved : goal.loop-number-preserved
loop-number-preserved c =
    c.in_ok-push.ensures.items ∙ ap (λ ns. ns ++ c.loop-number.number ∷ []) c.loop-number.invariant
    ∙ sym (numbers-with c.args.workers c.args.worker c.loop-number.number c.if-number-workers.false)

pub returns-clause-numbers : goal.returns-clause-numbers
returns-clause-numbers c =
    let whole : length c.db.result.now ≡ length c.args.job.now.sequences = ap length c.db.ensures.sequences in
    let all : c.loop-number.number ≡ length c.args.job.now.sequences =
    omega (arith, c.loop-number-test.false, c.loop-number.auto.number-end, c.sequences-number-end.ensures.count, whole) in
    c.loop-number.invariant ∙ ap (numbers_of c.args.workers c.args.worker) all

pub returns-clause-rising : goal.returns-clause-rising
returns-clause-rising c =
    subst (λ (ns : List ℕ). AllPairs (λ (low high : ℕ). low < high) ns) (sym c.loop-number.invariant) (numbers-rising c.args.workers c.args.worker c.loop-number.number)

pub returns-clause-within : goal.returns-clause-within
returns-clause-within c =
    let whole : length c.db.result.now ≡ length c.args.job.now.sequences = ap length c.db.ensures.sequences in
    let all : c.loop-number.number ≡ length c.args.job.now.sequences =
    omega (arith, c.loop-number-test.false, c.loop-number.auto.number-end, c.sequences-number-end.ensures.count, whole) in
    subst (λ (ns : List ℕ). AllByRecursion (λ (i : ℕ). i < length c.args.job.now.sequences) ns) (sym (c.loop-number.invariant ∙ ap (numbers_of c.args.workers c.args.worker) all))
    (numbers-within c.args.workers c.args.worker (length c.args.job.now.sequences))
