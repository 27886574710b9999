-- What reading one item may do, as a walk over a sequence needs it.
use Rattle.std.specs.Prelude.{◌≢◌, ℕ, ◌+◌, ◌≤◌, ◌<◌, ◌↔◌, true, false, List, [], length, slice_index, slice_range, AllPairs, Contains}
use Rattle.state_bits.specs.Members.{HasBit}
use Rattle.mine_model.specs.declared.item.Item.{Item}
use Rattle.mining_job.specs.declared.bound.Bound.{Bound}
use Rattle.sequence_grids.specs.declared.reading.Reading.{Reading}
use Rattle.mining_job.specs.Problems.{Problem}
use Rattle.sequence_grids.specs.Grids.{Completes, Ends, Reads, WritesRank}

-- the ranks that are kept of a column lie among those of the reading
pub record HasColumn (reading : Reading) (column : ℕ) : Type 0 where
  pub inside : column + 1 < length reading.ends.now
  pub forward : slice_index reading.ends.now column ≤ slice_index reading.ends.now (column + 1)
  pub within : slice_index reading.ends.now (column + 1) ≤ length reading.ranks.now

-- these ranks
abbrev pub column_at : Reading → ℕ → List ℕ
column_at reading column =
    slice_range reading.ranks.now (slice_index reading.ends.now column)
    (slice_index reading.ends.now (column + 1))

-- the state has a column, and the ranks that are kept of it lie among those of the reading
pub record HasOutputs (reading : Reading) (k : ℕ) : Type 0 where
  pub state : k < length reading.columns.now
  pub column : HasColumn reading (slice_index reading.columns.now k)

-- these ranks
abbrev pub outputs_at : Reading → ℕ → List ℕ
outputs_at reading k = column_at reading (slice_index reading.columns.now k)

-- What edges into the state do at t: whether they read it and write nothing, or may write something that
-- the bound allows; whether the state completes, and whether it ends, over the rest; what they may write,
-- each rank once.
pub record IsReadAt (problem : Problem) (bound : Bound) (t : Item) (rest : List Item) (reading : Reading)
    (k : ℕ) : Type 0 where
  pub silent : HasBit reading.silent.now k ↔ Reads problem t k []
  pub writing : HasBit reading.writing.now k ↔ ((rank : ℕ) × WritesRank problem bound t k rank)
  pub seen : HasBit reading.seen.now k ↔ Completes problem bound rest k true
  pub unseen : HasBit reading.unseen.now k ↔ Completes problem bound rest k false
  pub ending : HasBit reading.ending.now k ↔ Ends problem rest k
  pub kept : HasOutputs reading k
  pub outputs : (rank : ℕ) → Contains (outputs_at reading k) rank ↔ WritesRank problem bound t k rank
  pub once : AllPairs (λ one other. one ≢ other) (outputs_at reading k)

-- the same for each state that edges lead into
abbrev pub IsReading : Problem → Bound → Item → List Item → Reading → Type 0
IsReading problem bound t rest reading =
    (k : ℕ) → 1 ≤ k → k ≤ length problem.transducer.labels → IsReadAt problem bound t rest reading k
