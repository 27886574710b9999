use Rattle.std.proofs.Common.{subst}
use Rattle.structure_tests.specs.Pools.{SameSeats}
use Rattle.structure_tests.proofs.PoolLemmas.{whole_refilled}
use Rattle.structure_tests.proofs.pools.work_off.Goals as goal

pub finish-requires-after_bounds : goal.finish-requires-after_bounds
finish-requires-after_bounds g c = λ _. whole_refilled c.in_ok-seats.seats.items c.shifts.new.seats c.in_ok-seats.seats.len c.in_ok-seats.seats.ok.0
    (subst (λ l. SameSeats l c.shifts.new.seats) c.as_mut_slice.ensures.value c.shifts.ensures) c.in_ok-seats.ensures.pool
