use Rattle.std.proofs.Common.{◌≡◌, ◌+◌, ◌-◌, get_or, arith, subst}
use Rattle.sequence_reader.proofs.CuttingLemmas.{lines_behind-cut}
use Rattle.sequence_reader.proofs.cutting.line_end.Goals as goal

pub returns-then-bytes-end-eq10-clause-between : goal.returns-then-bytes-end-eq10-clause-between
returns-then-bytes-end-eq10-clause-between c =
    let here : c.loop-end.end + 1 - 1 ≡ c.loop-end.end = omega arith in
    lines_behind-cut c.args.bytes.now c.loop-end.end c.loop-end-test.true (subst (λ n. get_or c.args.bytes.now n 0 ≡ 10) here c.if-bytes-end-eq10.true)
