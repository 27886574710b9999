-- How the passes of a pool come back to the owners of the deques, and the deques are emptied.
use Rattle.std.specs.Prelude.{◌≡◌, ℕ, ◌<◌, List, [], Option, Some, slice_get, sum_by}
use Rattle.std.specs.declared.alloc.Global.{Global}
use Rattle.std.specs.declared.vec.Vec.{Vec}
use Rattle.crossbeam_deque.specs.Handles.{view, worker_deque, worker_view, stealer_deque}
use Rattle.node_pool.specs.declared.way.Way.{Way}
use Rattle.node_pool.specs.Deques.{Deque, pool_by}
use Rattle.node_pool.specs.Rule.{with_back}
use Rattle.node_pool.specs.Ways.{AreRights}
use Rattle.node_pool.specs.Opening.{Owner, kept}

module _ {T G : Type 0} where
  -- what the labels weigh that were put with the passes of the owners, and that were taken with them
  abbrev pub given_weight : (List ℕ → ℕ) → List (Owner T G) → ℕ
  given_weight weight owners = sum_by (λ (o : Owner T G). sum_by weight (worker_view o).given) owners

  abbrev pub got_weight : (List ℕ → ℕ) → List (Owner T G) → ℕ
  got_weight weight owners = sum_by (λ (o : Owner T G). sum_by weight (worker_view o).got) owners

  -- what the labels weigh that a seat stole, and that all seats stole
  abbrev pub stolen_weight : (List ℕ → ℕ) → List (Way T G) → ℕ
  stolen_weight weight ways = sum_by (λ (way : Way T G). sum_by weight (view way.right).got) ways

  abbrev pub all_stolen_weight : (List ℕ → ℕ) → List (Vec (Way T G) Global) → ℕ
  all_stolen_weight weight rows =
      sum_by (λ (ways : Vec (Way T G) Global). stolen_weight weight ways.items) rows

  -- the deque that the way leads into is this owner's, who has a part of it, and nothing was put by the way
  abbrev pub CanReturn : Owner T G → Way T G → Type 0
  CanReturn o way = (stealer_deque way.thief ≡ worker_deque o) × (0 < (worker_view o).parts)
      × ((view way.right).given ≡ [])

  -- the owner took back the pass of the way
  abbrev pub Returned : Owner T G → Way T G → Owner T G → Type 0
  Returned o way p =
      (worker_deque p ≡ worker_deque o) × (worker_view p ≡ with_back (worker_view o) (view way.right))

  -- the same at each place of the lists
  abbrev pub AllCanReturn : List (Owner T G) → List (Way T G) → Type 0
  AllCanReturn owners ways = (k : ℕ) (o : Owner T G) (way : Way T G)
      → slice_get owners k ≡ Some o → slice_get ways k ≡ Some way → CanReturn o way

  abbrev pub AllReturned : List (Owner T G) → List (Way T G) → List (Owner T G) → Type 0
  AllReturned owners ways after = (k : ℕ) (o : Owner T G) (way : Way T G)
      → slice_get owners k ≡ Some o → slice_get ways k ≡ Some way
      → (p : Owner T G) × (slice_get after k ≡ Some p) × Returned o way p

  -- the owners lack the parts of the first seats, this many
  abbrev pub HaveParts : Option G → ℕ → List (Owner T G) → Type 0
  HaveParts known_ground seats owners = (k : ℕ) (o : Owner T G) → slice_get owners k ≡ Some o
      → ((worker_view o).parts ≡ kept seats k) × ((worker_view o).known_ground ≡ known_ground)

  -- the ways of the first seats into the deques
  abbrev pub AreWays : Option G → List Deque → List (Vec (Way T G) Global) → Type 0
  AreWays known_ground deques rows = (k : ℕ) (ways : Vec (Way T G) Global) → slice_get rows k ≡ Some ways
      → (pool_by ways.items ≡ deques) × AreRights k known_ground ways.items
