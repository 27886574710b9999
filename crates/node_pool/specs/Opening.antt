-- How the parts of the deques are dealt out while a pool is opened, and come back while it is closed.
use Rattle.std.specs.Prelude.{◌≡◌, ℕ, ◌+◌, ◌-◌, nat_lt, if◌then◌else◌}
use Rattle.std.specs.Prelude.{List, Option, Some, slice_get, length}
use Rattle.std.specs.declared.alloc.Global.{Global}
use Rattle.std.specs.declared.vec.Vec.{Vec}
use Rattle.crossbeam_deque.specs.Handles.{view, worker_view}
use Rattle.crossbeam_deque.specs.declared.handles.Worker.{Worker}
use Rattle.node_pool.specs.declared.rule.Account.{Account}
use Rattle.node_pool.specs.declared.rule.Balance.{Balance}
use Rattle.node_pool.specs.declared.way.Way.{Way}
use Rattle.node_pool.specs.declared.seat.Seat.{Seat}
use Rattle.node_pool.specs.Deques.{Deque, pool_by}
use Rattle.node_pool.specs.Pool.{number_of, pool_of, seat_ground, IsFresh}
use Rattle.node_pool.specs.Rule.{fresh_account}
use Rattle.node_pool.specs.Ways.{share}

abbrev pub Owner : Type 0 → Type 0 → Type 0
Owner T G = Worker T Global (Account G) Balance

-- the parts that the owner of deque k has left once the first seats, this many, have theirs
abbrev pub kept : ℕ → ℕ → ℕ
kept seats k = 64 - seats + (if nat_lt k seats then 1 else 0)

module _ {T G : Type 0} (known_ground : Option G) where
  -- nothing was put or taken yet, and the first seats have their parts
  abbrev pub AreFresh : ℕ → List (Owner T G) → Type 0
  AreFresh seats owners = (k : ℕ) (o : Owner T G) → slice_get owners k ≡ Some o
      → worker_view o ≡ fresh_account (kept seats k) known_ground

  -- the ways of the seat of this number, before it stole anything
  abbrev pub AreNewWays : ℕ → List (Way T G) → Type 0
  AreNewWays number ways = (k : ℕ) (way : Way T G) → slice_get ways k ≡ Some way
      → view way.right ≡ fresh_account (share number k) known_ground

  -- the ways of the first seats, this many, into these deques
  abbrev pub AreRows : List Deque → ℕ → List (Vec (Way T G) Global) → Type 0
  AreRows deques seats rows = (length rows ≡ seats)
      × ((k : ℕ) (ways : Vec (Way T G) Global) → slice_get rows k ≡ Some ways
      → (pool_by ways.items ≡ deques) × AreNewWays k ways.items)

  -- these are fresh seats over these deques, in order
  abbrev pub AreSeats : List Deque → List (Seat T G) → Type 0
  AreSeats deques seats = (k : ℕ) (s : Seat T G) → slice_get seats k ≡ Some s
      → (number_of s ≡ k) × (pool_of s ≡ deques) × (seat_ground s ≡ known_ground) × IsFresh s
