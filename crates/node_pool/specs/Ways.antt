-- The rights with which one seat comes into the deques of its pool.
use Rattle.std.specs.Prelude.{◌≡◌, ℕ, ◌==◌, List, [], Option, Some, slice_get, if◌then◌else◌}
use Rattle.crossbeam_deque.specs.Handles.{view}
use Rattle.node_pool.specs.declared.way.Way.{Way}

-- a seat has one part of each deque but its own
abbrev pub share : ℕ → ℕ → ℕ
share number k = if k == number then 0 else 1

-- with the rights of the seat of this number nothing was put, and nothing was got with that in its own deque;
-- they know the ground
abbrev pub AreRights : {T G : Type 0} → ℕ → Option G → List (Way T G) → Type 0
AreRights {T} {G} number known_ground ways = (k : ℕ) (way : Way T G) → slice_get ways k ≡ Some way
    → ((view way.right).parts ≡ share number k) × ((view way.right).given ≡ [])
    × ((view way.right).known_ground ≡ known_ground) × (k ≡ number → (view way.right).got ≡ [])
