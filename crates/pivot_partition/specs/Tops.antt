-- Up to which rank a path has to write, at least: what may be written on it is then no more than whether it
-- goes.
use Rattle.std.specs.Prelude.{◌≡◌, ℕ, ◌+◌, ◌-◌, ◌*◌, ◌≤◌, ◌<◌, ◌⊎◌, ◌↔◌, true, false, Some, List, length, slice_index, drop, Contains}
use Rattle.mine_model.specs.declared.item.Item.{Item}
use Rattle.mining_job.specs.declared.bound.Bound.{Bound}
use Rattle.sequence_grids.specs.declared.reading.Reading.{Reading}
use Rattle.mining_job.specs.Problems.{Problem}
use Rattle.sequence_grids.specs.Grids.{Completes}
use Rattle.sequence_grids.specs.Readings.{outputs_at}
use Rattle.sequence_grids.specs.Kinds.{Goes, Needs, IsTarget}
use Rattle.state_bits.specs.Members.{HasBit}

-- what stands for a rank where there is none
abbrev pub no_rank : ℕ
no_rank = 4294967295

-- the bound of the patterns whose greatest rank it is
abbrev pub bound_by : ℕ → Bound
bound_by rank = record { top = rank; need = Some rank }

-- the number is the least of the ranks of the list, or stands for none
abbrev pub IsLeastOf : List ℕ → ℕ → Type 0
IsLeastOf ranks least = (p : ℕ) → p < no_rank
    → (least ≤ p) ↔ ((rank : ℕ) × Contains ranks rank × (rank ≤ p))

-- the number is the least rank up to which the property holds, where it does up to the last rank
abbrev pub IsLeastTop : Problem → (ℕ → Type 0) → ℕ → Type 0
IsLeastTop problem Holds least = (p : ℕ) → p ≤ length problem.ranking.order → (least ≤ p) ↔ Holds p

-- a path from the state over the rest ends, and writes ranks up to this one alone
abbrev pub GoesOn : Problem → List Item → ℕ → ℕ → Type 0
GoesOn problem rest state p = Completes problem (bound_by p) rest state true

-- the row has for each state up to which rank a path from it over the rest has to write
abbrev pub IsRowOf : Problem → List Item → List ℕ → Type 0
IsRowOf problem rest row = (state : ℕ) → state ≤ length problem.transducer.labels
    → IsLeastTop problem (GoesOn problem rest state) (slice_index row state)

-- the row has for each state that edges lead into up to which rank reading t into it and a path from there
-- has to write
abbrev pub IsEnteredRow : Problem → Item → List Item → List ℕ → Type 0
IsEnteredRow problem t rest row = (state : ℕ) → IsTarget problem state
    → IsLeastTop problem (λ p. Goes problem (bound_by p) t state × GoesOn problem rest state p)
    (slice_index row state)

-- the number of the first place of the row of a position, in a table that begins with the row of the end
abbrev pub row_at : Problem → List Item → ℕ → ℕ
row_at problem items position = (length items - position) * (length problem.transducer.labels + 1)

-- the table has the rows of all positions from this one on
pub record IsTableFrom (problem : Problem) (items : List Item) (position : ℕ) (table : List ℕ) : Type 0 where
  pub inside : position ≤ length items
  pub long : length table ≡ row_at problem items position + (length problem.transducer.labels + 1)
  pub rows : (place : ℕ) → position ≤ place → place ≤ length items
      → IsRowOf problem (drop place items) (drop (row_at problem items place) table)

-- what the silent bit and the outputs of a reading say of a state: up to p, an edge into it goes
abbrev pub GoesUpTo : Reading → ℕ → ℕ → Type 0
GoesUpTo reading state p =
    HasBit reading.silent.now state ⊎ ((rank : ℕ) × Contains (outputs_at reading state) rank × (rank ≤ p))

-- a path over the rest from a state that the front has up to p writes p, and no greater rank
abbrev pub WritesFrom : Problem → List ℕ → List Item → ℕ → Type 0
WritesFrom problem front rest p = (state : ℕ) × (state ≤ length problem.transducer.labels)
    × (slice_index front state ≤ p) × Completes problem (bound_by p) rest state false

-- at a state that edges lead into p is written, where the rows before and behind have it up to p
abbrev pub WritesAt : Problem → Item → List ℕ → List ℕ → ℕ → Type 0
WritesAt problem t entered below p = (state : ℕ) × IsTarget problem state
    × (slice_index entered state ≤ p) × (slice_index below state ≤ p) × Needs problem (bound_by p) t state
