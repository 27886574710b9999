-- The sequences of each worker.
use Rattle.std.specs.Prelude.{ℕ, ◌%◌, ◌==◌, Bool, List, filter, length, map}
use Rattle.std.specs.List.{range_with_len}
use Rattle.mine_model.specs.declared.item.Item.{Item}
use Rattle.mine_model.specs.Database.{sequence_at}
use Rattle.mine_model.specs.Support.{Sequence}

-- a worker takes the sequences whose numbers, divided by the number of workers, leave its own
abbrev pub takes_of : ℕ → ℕ → ℕ → Bool
takes_of workers worker number = number % workers == worker

-- the numbers that it takes, among the first so many, rising
abbrev pub numbers_of : ℕ → ℕ → ℕ → List ℕ
numbers_of workers worker count = filter (takes_of workers worker) (range_with_len 0 count)

-- the sequences with these numbers
abbrev pub sequences_at : List (Sequence Item) → List ℕ → List (Sequence Item)
sequences_at sequences numbers = map (sequence_at sequences) numbers

-- the sequences of a worker, of so many
abbrev pub share_of : List (Sequence Item) → ℕ → ℕ → List (Sequence Item)
share_of sequences workers worker = sequences_at sequences (numbers_of workers worker (length sequences))
