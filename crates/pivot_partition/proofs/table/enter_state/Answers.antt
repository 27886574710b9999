use Rattle.std.proofs.Common.{◌≤◌, arith}
use Rattle.pivot_partition.proofs.table.enter_state.Goals as goal

pub returns : goal.returns
returns c = λ p below.
    let is = c.least_output.ensures p below in (
      (λ low. (is.0 (omega (arith, low, c.max.ensures)), omega (arith, low, c.max.ensures))),
      (λ (goes, under). let least : c.least_output.result ≤ p = is.1 goes in omega (arith, least, under, c.max.ensures)),
    )
