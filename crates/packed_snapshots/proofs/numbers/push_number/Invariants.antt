use Rattle.std.proofs.Common.{◌≡◌, ℕ, ◌+◌, ◌<◌, ◌≤◌, ◌^◌, suc, List, ◌++◌}
use Rattle.std.specs.Vec.{vec_len, vec_capacity}
use Rattle.packed_snapshots.specs.Numbers.{most_bytes}
use Rattle.packed_snapshots.proofs.NumberLemmas.{IsWritten}
use Rattle.packed_snapshots.proofs.numbers.push_number.Given as goal

abbrev pub invariant-loop-rest : goal.invariant-loop-rest
invariant-loop-rest l = (front : List ℕ) × (room : ℕ)
    × IsWritten l.number l.rest front
    × (l.bytes.items ≡ l.initial.bytes.items ++ front)
    × (l.rest < 128 ^ suc room)
    × (vec_len l.bytes + suc room ≤ vec_len l.initial.bytes + most_bytes l.number)
    × (vec_capacity l.initial.bytes ≤ vec_capacity l.bytes)

abbrev pub decreases-loop-rest : goal.decreases-loop-rest
decreases-loop-rest l = l.rest
