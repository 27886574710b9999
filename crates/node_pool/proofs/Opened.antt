-- What is known of an open pool.
use Rattle.std.proofs.Common.{◌≡◌, List, Option, All, ◌∙◌, get_or, length}
use Rattle.std.proofs.lemmas.Option.{slice_get-get_or}
use Rattle.node_pool.specs.declared.seat.Seat.{Seat}
use Rattle.node_pool.specs.Deques.{Deque}
use Rattle.node_pool.specs.Pool.{seat_ground, IsFresh, IsWholePool}
use Rattle.node_pool.specs.Opening.{AreSeats}

module _ {T G : Type 0} (known_ground : Option G) (deques : List Deque) (seats : List (Seat T G)) where
  pub whole_pool : length deques ≡ length seats → AreSeats known_ground deques seats → IsWholePool seats
  whole_pool size all = (deques, known_ground, size, λ k s e. let a = all k s e in (a.0, a.1, a.2))

  pub all_fresh : AreSeats known_ground deques seats → All IsFresh seats
  all_fresh all k d within = (all k (get_or seats k d) (slice_get-get_or seats k d within)).3

  pub all_ground : (h : Option G) → known_ground ≡ h → AreSeats known_ground deques seats → All (λ s. seat_ground s ≡ h) seats
  all_ground h is all k d within = (all k (get_or seats k d) (slice_get-get_or seats k d within)).2 ∙ is
