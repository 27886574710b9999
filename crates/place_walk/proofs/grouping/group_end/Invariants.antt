use Rattle.std.proofs.Common.{◌≡◌, ℕ, ◌-◌, ◌<◌, ◌≤◌, false, length, Some}
use Rattle.std.specs.List.{slice_get}
use Rattle.place_walk.specs.declared.stand.Stand.{Stand}
use Rattle.place_walk.proofs.grouping.group_end.Given as goal

abbrev pub invariant-stands : goal.invariant-stands
invariant-stands l = record {
  some : l.from < l.end;
  within : l.end ≤ length l.stands;
  here : (k : ℕ) (stand : Stand) → l.from < k → k < l.end → slice_get l.stands k ≡ Some stand → stand.first ≡ false;
}

abbrev pub decreases-stands : goal.decreases-stands
decreases-stands l = length l.stands - l.end
