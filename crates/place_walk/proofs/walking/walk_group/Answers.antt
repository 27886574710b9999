use Rattle.std.proofs.Common.{◌≡◌, length, arith}
use Rattle.place_walk.specs.Ways.{with_first}
use Rattle.place_walk.proofs.walking.walk_group.Goals as goal

pub returns-clause-visits : goal.returns-clause-visits
returns-clause-visits g c =
    let (here, cut, are) = c.in_ok-walk_sequence.ensures.visits in
    let begun : length c.args.visits.now.items ≡ c.len-begun.result = omega (arith, c.len-begun.ensures) in
    (with_first here, c.mark_first.ensures c.args.visits.now.items here cut begun, are)
