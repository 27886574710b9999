use Rattle.std.proofs.Common.{◌≡◌, ℕ, ◌+◌, List, map, slice_get, length, flat_map}
use Rattle.std.specs.List.{range_with_len}
use Rattle.pool_schedule.specs.Schedule.{events_of}
use Rattle.pool_schedule.specs.Machine.{load}
use Rattle.pool_schedule.proofs.choice.numbered.Given as goal

abbrev pub invariant-loop-w : goal.invariant-loop-w
invariant-loop-w g l = (label : g.row.N.Denot → List ℕ)
    → l.number ≡ l.left + length (flat_map (λ w. events_of (map (load label) l.workers) w (slice_get (map (load label) l.workers) w)) (range_with_len 0 l.w))
