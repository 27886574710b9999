use Rattle.std.proofs.Common.{◌≡◌, ℕ, ◌+◌, List, map, slice_get, length, flat_map}
use Rattle.std.specs.List.{range_with_len}
use Rattle.pool_schedule.specs.Schedule.{steal_from}
use Rattle.pool_schedule.specs.Machine.{load}
use Rattle.pool_schedule.proofs.choice.theft.Given as goal

abbrev pub invariant-loop-from : goal.invariant-loop-from
invariant-loop-from g l = (label : g.row.N.Denot → List ℕ)
    → l.number ≡ l.left + length (flat_map (λ v. steal_from l.w v (slice_get (map (load label) l.workers) v)) (range_with_len 0 l.from))
