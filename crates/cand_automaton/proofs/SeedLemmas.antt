-- Seeds as parts of pivots.
use Rattle.std.proofs.Common.{◌≡◌, ℕ, ◌*◌, ◌≤◌, ◌<◌, Some, List, length, get_or, sum_by, sym, ap, ◌∙◌, arith}
use Rattle.std.specs.List.{All, AllByRecursion, Contains, slice_get}
use Rattle.std.proofs.lemmas.List.Elements.{Contains-get_or}
use Rattle.std.proofs.lemmas.Option.{slice_get-get_or}
use Rattle.mine_model.specs.declared.item.Item.{Item}
use Rattle.mine_model.specs.Database.{IsWithinLimits}
use Rattle.mine_model.specs.Limits.{most_sequences}
use Rattle.mine_model.specs.Support.{Sequence}
use Rattle.mine_model.proofs.ListLemmas.{AllByRecursion-from}
use Rattle.mine_model.proofs.ElementLemmas.{slice_get-mapped_by}
use Rattle.mining_job.specs.declared.part_seed.PartSeed.{PartSeed}
use Rattle.mining_job.specs.Problems.{Problem, data_of}
use Rattle.mining_job.specs.Parts.{pivot_of, IsComplete}
use Rattle.pivot_partition.specs.Pivots.{pivots_in}
use Rattle.snapshot_project.proofs.PartLemmas.{rising-few}
use Rattle.automaton_model.specs.Groups.{AreOfPivot, part_of}
use Rattle.cand_automaton.proofs.PartLemmas.{part-most}

module _ (problem : Problem) (seed : PartSeed) (complete : IsComplete problem seed) where
  pub seed-pivot : AreOfPivot (data_of problem) problem.ranking.order (pivot_of seed.pivot) seed.sequences.items
  seed-pivot = record { rising = complete.rising; exact = complete.exact }

  pub seed-within : (i : ℕ) → Contains seed.sequences.items i → i < length problem.sequences
  seed-within i held = ((complete.exact i).0 held).0

  pub seed-inside : AllByRecursion (λ i. i < length problem.sequences) seed.sequences.items
  seed-inside = AllByRecursion-from (λ i. i < length problem.sequences) seed.sequences.items seed-within

  pub seed-at : (k : ℕ) → k < length seed.sequences.items → get_or seed.sequences.items k 0 < length problem.sequences
  seed-at k inside = seed-within (get_or seed.sequences.items k 0) (Contains-get_or seed.sequences.items k 0 inside)

  module _ (limits : All IsWithinLimits problem.sequences) (most : length problem.sequences ≤ most_sequences) where
    pub seed-few : length seed.sequences.items ≤ most_sequences
    seed-few =
        let few : length seed.sequences.items ≤ length problem.sequences = rising-few seed.sequences.items (length problem.sequences) complete.rising seed-inside in
        omega (arith, few, most)

    pub seed-weight : sum_by (λ (s : Sequence Item). s.weight) (part_of (data_of problem) seed.sequences.items) ≤ 4194304000000000
    seed-weight =
        let weight = part-most (data_of problem) problem.ranking.order (pivot_of seed.pivot) seed.sequences.items seed-pivot limits in
        let all : length problem.sequences * 1000000000 ≤ 4194304 * 1000000000 = grind (arith, most) in
        omega (arith, weight, all)

-- the pivot of a seed, by its place
pub pivot-at : (seeds : List PartSeed) (k : ℕ) (seed : PartSeed) → k < length seeds → seed ≡ get_or seeds k seed → slice_get (pivots_in seeds) k ≡ Some (pivot_of seed.pivot)
pivot-at seeds k seed inside is =
    slice_get-mapped_by (λ (s : PartSeed). pivot_of s.pivot) seeds k seed (slice_get-get_or seeds k seed inside ∙ ap (λ (s : PartSeed). Some s) (sym is))
