use Rattle.std.proofs.Common.{◌-◌, ◌<◌, ◌≤◌, length, get_or}
use Rattle.waiting_stands.proofs.searching.halve.Given as goal

abbrev pub invariant-halves : goal.invariant-halves
invariant-halves l = record {
  some : l.low < l.high;
  within : l.high ≤ length l.list;
  not_above : get_or l.list l.low 0 ≤ l.value;
  above : l.high < length l.list → l.value < get_or l.list l.high 0;
}

abbrev pub decreases-halves : goal.decreases-halves
decreases-halves l = l.high - l.low
