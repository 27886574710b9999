-- What the tests keep of a pool.
use Rattle.std.specs.Prelude.{◌≡◌, ℕ, List, Some, All, length, slice_get}
use Rattle.node_pool.specs.declared.seat.Seat.{Seat}
use Rattle.node_pool.specs.Pool.{seat_ground, IsWholePool, SameSeat}

-- these are all the seats of one pool, for tasks of this ground
abbrev pub IsPool : {T G : Type 0} → G → List (Seat T G) → Type 0
IsPool g seats = IsWholePool seats × All (λ s. seat_ground s ≡ Some g) seats

-- the new seats are those of before, in order
abbrev pub SameSeats : {T G : Type 0} → List (Seat T G) → List (Seat T G) → Type 0
SameSeats {T} {G} old new = (length new ≡ length old)
    × ((k : ℕ) (s t : Seat T G) → slice_get old k ≡ Some s → slice_get new k ≡ Some t → SameSeat s t)
