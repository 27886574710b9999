use Rattle.std.proofs.Common.{◌≡◌, ◌≤◌, ◌*◌, vec_len}
use Rattle.structure_tests.specs.Pools.{IsPool}
use Rattle.structure_tests.proofs.pools.meetings.Given as goal

abbrev pub invariant-seats : goal.invariant-seats
invariant-seats l = IsPool tt l.seats.items × (vec_len l.seats ≡ l.workers) × (l.met ≤ 64 * l.by)
