-- What the workers' sums hold of the sequences of a job, for the next level of a sieve.
use Rattle.std.specs.Prelude.{ℕ, ◌+◌, Bool, List, ◌++◌, length}
use Rattle.mine_model.specs.declared.item.Item.{Item}
use Rattle.mine_model.specs.Support.{Sequence}
use Rattle.mining_job.specs.Problems.{Problem, data_of}
use Rattle.prefix_sieve.specs.Hashes.{hash_of}
use Rattle.prefix_sieve.specs.Sieves.{HasEnough, AreLevels}

-- nothing is lost of these sequences in the sums for the level behind these
abbrev pub HasAll : Problem → List (List Bool) → List (Sequence Item) → List ℕ → Type 0
HasAll problem levels sequences sums =
    HasEnough (data_of problem) problem.ranking.order hash_of levels (length levels + 1) sequences sums

-- the sequences were added: where nothing was lost of some before, nothing is lost of those and these
abbrev pub AddsAll : Problem → List (List Bool) → List (Sequence Item) → List ℕ → List ℕ → Type 0
AddsAll problem levels sequences before after = (some : List (Sequence Item))
    → HasAll problem levels some before → HasAll problem levels (some ++ sequences) after

-- the levels lose no prefix of a frequent pattern of the job
abbrev pub AreLevelsOf : Problem → List (List Bool) → Type 0
AreLevelsOf problem levels = AreLevels (data_of problem) problem.ranking.order hash_of levels
