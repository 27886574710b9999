use Rattle.std.proofs.Common.{◌≡◌, ◌+◌, ◌*◌, ◌-◌, length, drop}
use Rattle.packed_snapshots.specs.Ahead.{number_ahead, bytes_behind, IsAhead}
use Rattle.packed_snapshots.proofs.numbers.take_long_number.Given as goal

abbrev pub invariant-loop-at : goal.invariant-loop-at
invariant-loop-at l =
    IsAhead (drop l.at l.bytes) × (l.number + l.unit * number_ahead (drop l.at l.bytes) ≡ number_ahead l.bytes)
    × (bytes_behind (drop l.at l.bytes) ≡ bytes_behind l.bytes)

abbrev pub decreases-loop-at : goal.decreases-loop-at
decreases-loop-at l = length l.bytes - l.at
