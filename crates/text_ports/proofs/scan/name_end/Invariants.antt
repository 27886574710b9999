use Rattle.std.proofs.Common.{length, ◌-◌, ◌≡◌, ◌≤◌, true}
use Rattle.std.specs.List.{AllByRecursion, slice_range}
use Rattle.mine_model.specs.Text.{is_name_byte}
use Rattle.text_ports.proofs.scan.name_end.Given as goal

abbrev pub invariant-loop-at : goal.invariant-loop-at
invariant-loop-at l = record {
  rises : l.from ≤ l.at;
  within : l.at ≤ length l.rest;
  names : AllByRecursion (λ b. is_name_byte b ≡ true) (slice_range l.rest l.from l.at);
}

abbrev pub decreases-loop-at : goal.decreases-loop-at
decreases-loop-at l = length l.rest - l.at

abbrev pub invariant-loop-at-2 : goal.invariant-loop-at-2
invariant-loop-at-2 l = record {
  rises : l.from ≤ l.at;
  within : l.at ≤ length l.rest;
  names : AllByRecursion (λ b. is_name_byte b ≡ true) (slice_range l.rest l.from l.at);
}

abbrev pub decreases-loop-at-2 : goal.decreases-loop-at-2
decreases-loop-at-2 l = length l.rest - l.at
