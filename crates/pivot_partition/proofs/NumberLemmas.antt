-- Rows of a table, by their numbers.
use Rattle.std.proofs.Common.{◌≡◌, ℕ, ◌+◌, ◌-◌, ◌*◌, ◌<◌, ◌≤◌, List, length, arith}
use Rattle.mine_model.specs.declared.item.Item.{Item}
use Rattle.mining_job.specs.Problems.{Problem}
use Rattle.pivot_partition.specs.Tops.{row_at}

rows_more : (n k s : ℕ) → k < n → (n - k) * s ≡ (n - (k + 1)) * s + s
rows_more n k s less =
    let step : n - k ≡ (n - (k + 1)) + 1 = omega arith in
    rw step (grind arith)

-- the row of a position stands behind that of the next one
pub row-next : (problem : Problem) (items : List Item) (position : ℕ) → position < length items
    → row_at problem items position ≡ row_at problem items (position + 1) + (length problem.transducer.labels + 1)
row-next problem items position less = rows_more (length items) position (length problem.transducer.labels + 1) less

pub row-end : (problem : Problem) (items : List Item) (position : ℕ) → length items ≤ position → row_at problem items position ≡ 0
row-end problem items position past = let none : length items - position ≡ 0 = omega arith in rw none (grind arith)

rows_rise : (n k j s : ℕ) → k ≤ j → (n - j) * s ≤ (n - k) * s
rows_rise n k j s less =
    let more : n - k ≡ (n - j) + ((n - k) - (n - j)) = omega arith in
    let both : ((n - j) + ((n - k) - (n - j))) * s ≡ (n - j) * s + ((n - k) - (n - j)) * s = grind arith in
    rw more (omega (arith, both))

-- the rows of later positions stand before it
pub row-later : (problem : Problem) (items : List Item) (position place : ℕ) → position ≤ place → row_at problem items place ≤ row_at problem items position
row-later problem items position place less = rows_rise (length items) position place (length problem.transducer.labels + 1) less
