use Rattle.std.proofs.Common.{◌≡◌, ◌≤◌, vec_len}
use Rattle.structure_tests.specs.Pools.{IsPool}
use Rattle.structure_tests.proofs.pools.meet_all.Given as goal

abbrev pub invariant-deques : goal.invariant-deques
invariant-deques l = IsPool tt l.seats.items × (vec_len l.seats ≡ l.workers) × (l.met ≤ l.from)
