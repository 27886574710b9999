-- The kids of a label are the ranks that can follow in sequences that weigh enough.
use Rattle.std.proofs.Common.{ℕ, ◌≤◌, ◌<◌, List, [], ◌∷◌, ◌++◌, map, sym, subst, arith}
use Rattle.std.specs.List.{AllPairs, Contains}
use Rattle.std.proofs.lemmas.Simd.{map-map}
use Rattle.mine_model.specs.declared.item.Item.{Item}
use Rattle.mine_model.specs.Support.{Counts}
use Rattle.mine_model.specs.Growth.{WeighAtLeast}
use Rattle.mine_model.specs.Pivots.{label_of, IsAliveLabel}
use Rattle.search_tree.specs.SearchTree.{AreKids}
use Rattle.mine_model.proofs.ListLemmas.{Contains-by, Contains-from, pairs-mapped}
use Rattle.mine_model.proofs.FrequencyLemmas.{Counts-by}
use Rattle.mine_model.proofs.AliveLemmas.{WeighAtLeast-counted, WeighAtLeast-weaker, WeighAtLeast-some}
use Rattle.mining_job.specs.declared.part_seed.PartSeed.{PartSeed}
use Rattle.mining_job.specs.Problems.{Problem, data_of}
use Rattle.sequence_grids.specs.Grids.{GridList}
use Rattle.mining_job.specs.Parts.{pivot_of, IsComplete}
use Rattle.snapshot_project.specs.declared.next_rank.NextRank.{NextRank}
use Rattle.snapshot_project.specs.Extensions.{sequences_of, GrowsBehind, CanFollow, AreNextRanks}
use Rattle.snapshot_project.specs.Snapshots.{part_for}
use Rattle.dfs_growth.specs.Projections.{IsPartBy}
use Rattle.dfs_growth.proofs.PartLemmas.{for_part, Behind, part-counts, part-weighs, behind-any, grows-behind}

abbrev rank_of : NextRank → ℕ
rank_of next = next.rank

module _ (problem : Problem) (seed : PartSeed) (complete : IsComplete problem seed) (least : 1 ≤ problem.threshold) where
  -- a rank that can follow in sequences that weigh enough is that of an alive label
  follows-alive : (ranks : List ℕ) (rank weight : ℕ) → CanFollow (part_for problem seed) ranks rank weight → problem.threshold ≤ weight
      → IsAliveLabel (data_of problem) problem.ranking.order (pivot_of seed.pivot) (ranks ++ rank ∷ [])
  follows-alive ranks rank weight counted enough =
      let part = part_for problem seed in
      let Grows : List Item → Type 0 = GrowsBehind part (ranks ++ rank ∷ []) in
      let weigh : WeighAtLeast Grows (sequences_of part) 1 = (WeighAtLeast-counted Grows (sequences_of part) weight 1 counted).1 (omega arith) in
      let (some, held, (prefix, ranked, behind)) = WeighAtLeast-some Grows (sequences_of part) 1 (omega arith) weigh in
      let Has : List Item → Type 0 = Behind problem seed complete prefix in
      let here : Counts Has (sequences_of part) weight = Counts-by Grows Has (grows-behind problem seed complete prefix (ranks ++ rank ∷ []) ranked) (sequences_of part) weight counted in
      let all : Counts Has problem.sequences weight = (part-counts problem seed complete Has (behind-any problem seed complete prefix) weight).0 here in
      record { prefix = prefix; ranked = ranked; alive = (WeighAtLeast-counted Has problem.sequences weight problem.threshold all).1 enough }

  -- the rank of an alive label can follow
  alive-follows : (ranks : List ℕ) → IsAliveLabel (data_of problem) problem.ranking.order (pivot_of seed.pivot) ranks
      → WeighAtLeast (GrowsBehind (part_for problem seed) ranks) (sequences_of (part_for problem seed)) problem.threshold
  alive-follows ranks alive =
      let part = part_for problem seed in
      let Has : List Item → Type 0 = Behind problem seed complete alive.prefix in
      WeighAtLeast-weaker Has (GrowsBehind part ranks) (λ items. (grows-behind problem seed complete alive.prefix ranks alive.ranked items).1) (sequences_of part) problem.threshold
      (part-weighs problem seed complete Has (behind-any problem seed complete alive.prefix) problem.threshold alive.alive)

rising-ranks : (found : List NextRank) → AllPairs (λ low high. low.rank < high.rank) found → AllPairs (λ low high. low < high) (map rank_of found)
rising-ranks found rising = pairs-mapped rank_of (λ low high. low < high) found rising

pub kids-are : (problem : Problem) (pivot : ℕ) (part : GridList) → IsPartBy problem pivot part → 1 ≤ problem.threshold → (ranks : List ℕ) (found : List NextRank)
    → AreNextRanks part ranks problem.threshold found
    → AreKids (data_of problem) problem.ranking.order pivot ranks (map (λ (n : NextRank). label_of pivot (ranks ++ n.rank ∷ [])) found)
kids-are problem pivot part by_seed least ranks found =
    for_part problem pivot part by_seed
    (λ p q. AreNextRanks q ranks problem.threshold found → AreKids (data_of problem) problem.ranking.order p ranks (map (λ (n : NextRank). label_of p (ranks ++ n.rank ∷ [])) found))
    (λ seed complete next. record {
      next = map rank_of found;
      rising = rising-ranks found next.rising;
      exact = λ rank. (
        (λ held.
            let (n, among, same) = Contains-from rank_of found rank held in
            let right = next.right n among in
            subst (λ r. IsAliveLabel (data_of problem) problem.ranking.order (pivot_of seed.pivot) (ranks ++ r ∷ [])) (sym same)
            (follows-alive problem seed complete least ranks n.rank n.weight right.1 right.0)),
        (λ alive.
            let (n, among, same) = next.all rank (alive-follows problem seed complete least (ranks ++ rank ∷ []) alive) in
            subst (Contains (map rank_of found)) same (Contains-by rank_of found n among)),
      );
      longer = sym (map-map (λ rank. label_of (pivot_of seed.pivot) (ranks ++ rank ∷ [])) rank_of found);
    })
