use Rattle.std.proofs.Common.{◌≡◌, ◌+◌, ◌-◌, ◌<◌, ◌≤◌, length, get_or}
use Rattle.waiting_stands.proofs.searching.gallop.Given as goal

abbrev pub invariant-steps : goal.invariant-steps
invariant-steps l = record {
  ahead : l.fn.from + l.step ≡ l.low + 1;
  within : l.low < length l.list;
  not_above : get_or l.list l.low 0 ≤ l.value;
  some : 0 < l.step;
}

abbrev pub decreases-steps : goal.decreases-steps
decreases-steps l = length l.list - l.low
