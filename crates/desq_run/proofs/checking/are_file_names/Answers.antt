use Rattle.std.proofs.Common.{◌≤◌, length, refl, arith}
use Rattle.desq_run.proofs.NameLemmas.{names-from}
use Rattle.desq_run.proofs.checking.are_file_names.Goals as goal

pub returns : goal.returns
returns c =
    let count = c.count-number-end.ensures.count in
    let test = c.loop-number-test.false in
    let all : length c.args.names.now ≤ c.loop-number.number = omega (arith, count, test) in (
      (λ _. names-from c.args.names.now c.count-number-end.ensures.distinct (λ k less. c.loop-number.invariant k (omega (arith, less, all)))),
      (λ are. refl),
    )
