-- The deques of a pool.
use Rattle.std.specs.Prelude.{List, map}
use Rattle.atomic_blocks.specs.Lent.{RowsId}
use Rattle.std.specs.declared.alloc.Global.{Global}
use Rattle.crossbeam_deque.specs.Handles.{stealer_deque}
use Rattle.node_pool.specs.declared.way.Way.{Way}

-- which deque it is
abbrev pub Deque : Type 0
Deque = RowsId × Global

-- the deques that the ways lead into
abbrev pub pool_by : {T G : Type 0} → List (Way T G) → List Deque
pool_by ways = map (λ way. stealer_deque way.thief) ways
