use Rattle.std.proofs.Common.{◌≡◌, ◌≢◌, ℕ, ◌≤◌, ◌<◌, ◌⊎◌, true, length}
use Rattle.node_pool.specs.Pool.{number_of, pool_of, is_dry, given, got, SameSeat}
use Rattle.search_engine.proofs.seats.stolen.Given as goal

abbrev pub invariant-deques : goal.invariant-deques
invariant-deques g l = record {
  own : l.own ≡ number_of l.fn.seat;
  end : l.end ≤ length (pool_of l.fn.seat);
  same : SameSeat l.fn.seat l.seat;
  given : given l.seat ≡ given l.fn.seat;
  got : got l.seat ≡ got l.fn.seat;
  dry : (k : ℕ) → (is_dry l.fn.seat k ≡ true) ⊎ ((l.first ≤ k) × (k < l.from) × (k ≢ number_of l.fn.seat))
      → is_dry l.seat k ≡ true;
}
