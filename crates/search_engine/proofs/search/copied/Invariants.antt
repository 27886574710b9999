use Rattle.std.proofs.Common.{◌≡◌, map, take, All}
use Rattle.mining_job.specs.declared.part_seed.PartSeed.{PartSeed}
use Rattle.mining_job.specs.Problems.{Problem}
use Rattle.mining_job.specs.Parts.{pivot_of, IsComplete}
use Rattle.search_engine.proofs.search.copied.Given as goal

abbrev pub invariant-loop-seed : goal.invariant-loop-seed
invariant-loop-seed l = record {
  pivots : map (λ (seed : PartSeed). pivot_of seed.pivot) l.copies.items ≡ map (λ (seed : PartSeed). pivot_of seed.pivot) (take l.seed-index l.seeds);
  complete : (problem : Problem) → All (IsComplete problem) l.seeds → All (IsComplete problem) l.copies.items;
}
