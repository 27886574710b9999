use Rattle.std.proofs.Common.{◌≡◌}
use Rattle.node_pool.specs.Pool.{given, got, SameSeat}
use Rattle.search_engine.proofs.seats.fetched.Given as goal

abbrev pub invariant-looks : goal.invariant-looks
invariant-looks g l = record {
  same : SameSeat l.fn.seat l.seat;
  given : given l.seat ≡ given l.fn.seat;
  got : got l.seat ≡ got l.fn.seat;
}
