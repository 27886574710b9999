-- What workers are given and what they find.
use Rattle.std.specs.Prelude.{◌≡◌, ℕ, ◌%◌, ◌≤◌, ◌<◌, List, [], map, length, slice_get, Some, Result, Ok, All, AllPairs, Contains, sum_by}
use Rattle.std.specs.List.{flat_map}
use Rattle.mine_model.specs.declared.memory.NoMemory.{NoMemory}
use Rattle.mine_model.specs.Pivots.{IsAliveLabel}
use Rattle.mining_job.specs.declared.part_seed.PartSeed.{PartSeed}
use Rattle.mining_job.specs.Problems.{Problem, data_of}
use Rattle.mining_job.specs.Parts.{IsComplete}
use Rattle.pivot_partition.specs.Pivots.{pivots_in}
use Rattle.cand_automaton.specs.declared.parts.Done.{Done}
use Rattle.cand_automaton.specs.Pivots.{AreFound}

-- the seeds are those of alive pivots, rising
pub record AreSeeds (problem : Problem) (seeds : List PartSeed) : Type 0 where
  pub complete : All (IsComplete problem) seeds
  pub rising : AllPairs (λ low high. low < high) (pivots_in seeds)
  pub alive : (pivot : ℕ) → Contains (pivots_in seeds) pivot
      → (1 ≤ pivot) × IsAliveLabel (data_of problem) problem.ranking.order pivot []

-- a worker, of so many, found what the seeds have whose numbers, divided by these, leave its own
abbrev pub IsDone : Problem → List PartSeed → ℕ → ℕ → Done → Type 0
IsDone problem seeds workers worker done = AreFound (data_of problem) problem.ranking.order (pivots_in seeds)
    (λ place. place % workers ≡ worker) done.rows.items done.sets

-- so each worker that did not want memory
pub record AreTried (problem : Problem) (seeds : List PartSeed) (workers : ℕ)
    (results : List (Result Done NoMemory)) : Type 0 where
  pub all : length results ≡ workers
  pub each : (worker : ℕ) (done : Done) → slice_get results worker ≡ Some (Ok done)
      → IsDone problem seeds workers worker done

-- no worker wanted memory, and all that they found is here
pub record AreGathered (results : List (Result Done NoMemory)) (all : Done) : Type 0 where
  pub found : List Done
  pub each : results ≡ map (λ (done : Done). Ok done) found
  pub rows : all.rows.items ≡ flat_map (λ (done : Done). done.rows.items) found
  pub sets : all.sets ≡ sum_by (λ (done : Done). done.sets) found
