-- What a contract says of a seat.
use Rattle.std.specs.Prelude.{◌≡◌, ◌≢◌, ℕ, ◌==◌, Bool, false, if◌then◌else◌}
use Rattle.std.specs.Prelude.{List, [], ◌∷◌, ◌++◌, length, Option, Some, slice_get}
use Rattle.std.specs.List.{flat_map}
use Rattle.std.specs.Option.{option_map_or}
use Rattle.std.specs.Int.{bit_at}
use Rattle.crossbeam_deque.specs.Handles.{view, worker_view}
use Rattle.node_pool.specs.Deques.{Deque, pool_by}
use Rattle.node_pool.specs.declared.way.Way.{Way}
use Rattle.node_pool.specs.declared.seat.Seat.{Seat}

module _ {T G : Type 0} where
  -- which place the seat has in its pool
  abbrev pub number_of : Seat T G → ℕ
  number_of s = s.number

  -- the pool, as its deques in the order of their seats
  abbrev pub pool_of : Seat T G → List Deque
  pool_of s = pool_by s.ways.items

  -- the ground of the pool's tasks
  abbrev pub seat_ground : Seat T G → Option G
  seat_ground s = (worker_view s.owner).known_ground

  -- the labels that the seat put, oldest first
  abbrev pub given : Seat T G → List (List ℕ)
  given s = (worker_view s.owner).given

  -- the labels that the seat took from its own deque, in their order
  abbrev pub taken : Seat T G → List (List ℕ)
  taken s = (worker_view s.owner).got

  -- the labels that came by a way, in their order
  abbrev pub stolen_by : Way T G → List (List ℕ)
  stolen_by way = (view way.right).got

  -- the labels that the seat took, and then those that it stole from each deque
  abbrev pub got : Seat T G → List (List ℕ)
  got s = taken s ++ flat_map stolen_by s.ways.items

  -- the part of them that came from deque k: what it took, where that is its own, else what it stole
  abbrev pub got_from : Seat T G → ℕ → List (List ℕ)
  got_from s k = if k == number_of s then taken s else option_map_or stolen_by (slice_get s.ways.items k) []

  -- the label came from deque k, and nothing from the others
  abbrev pub GotFrom : ℕ → List ℕ → Seat T G → Seat T G → Type 0
  GotFrom k label old new = (got_from new k ≡ got_from old k ++ label ∷ [])
      × ((j : ℕ) → j ≢ k → got_from new j ≡ got_from old j)

  -- nothing came from any deque
  abbrev pub GotNothing : Seat T G → Seat T G → Type 0
  GotNothing old new = (k : ℕ) → got_from new k ≡ got_from old k

  -- the seat found no task in deque k since it last put, took or stole one
  abbrev pub is_dry : Seat T G → ℕ → Bool
  is_dry s k = bit_at s.dry k == 1

  -- it is the same seat of the same pool
  abbrev pub SameSeat : Seat T G → Seat T G → Type 0
  SameSeat old new = (number_of new ≡ number_of old) × (pool_of new ≡ pool_of old)
      × (seat_ground new ≡ seat_ground old)

  -- it has this place in this pool, for tasks of this ground
  abbrev pub IsSeatAt : Option G → List Deque → ℕ → Seat T G → Type 0
  IsSeatAt known_ground pool k s = (number_of s ≡ k) × (pool_of s ≡ pool) × (seat_ground s ≡ known_ground)

  -- these are all the seats of one pool, in order
  abbrev pub IsWholePool : List (Seat T G) → Type 0
  IsWholePool seats = (pool : List Deque) × (known_ground : Option G) × (length pool ≡ length seats)
      × ((k : ℕ) (s : Seat T G) → slice_get seats k ≡ Some s → IsSeatAt known_ground pool k s)

  -- nothing was put, got or found dry
  abbrev pub IsFresh : Seat T G → Type 0
  IsFresh s = (given s ≡ []) × (got s ≡ []) × ((k : ℕ) → is_dry s k ≡ false)
