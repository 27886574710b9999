use Rattle.std.proofs.Common.{◌≡◌, vec_len}
use Rattle.structure_tests.specs.Pools.{IsPool}
use Rattle.structure_tests.proofs.pools.act.Given as goal

abbrev pub invariant-puts : goal.invariant-puts
invariant-puts l = IsPool tt l.seats.items × (vec_len l.seats ≡ vec_len l.fn.seats)

abbrev pub invariant-steals : goal.invariant-steals
invariant-steals l = IsPool tt l.seats.items × (vec_len l.seats ≡ vec_len l.fn.seats)

abbrev pub invariant-takes : goal.invariant-takes
invariant-takes l = IsPool tt l.seats.items × (vec_len l.seats ≡ vec_len l.fn.seats)
