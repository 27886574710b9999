use Rattle.std.proofs.Common.{◌<◌, length, rules}
use Rattle.stand_sums.specs.declared.next_rank.NextRank.{NextRank}
use Rattle.stand_sums.proofs.FileLemmas.{laid-last}
use Rattle.stand_sums.proofs.filing.run_end.Goals as goal

pub returns : goal.returns
returns c end laid =
    let none : NextRank = record { rank = 0; weight = 0; support = 0; longer = 0; first = 0; last = 0 } in
    let some : 0 < length c.args.next.now = search rules in
    laid-last 0 c.args.next.now end none laid some
