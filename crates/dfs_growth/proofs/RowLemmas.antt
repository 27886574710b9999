-- The row of a label.
use Rattle.std.proofs.Common.{◌≡◌, ◌≢◌, ℕ, ◌≤◌, ◌<◌, List, [], ◌∙◌, subst, arith}
use Rattle.mine_model.specs.declared.item.Item.{Item}
use Rattle.mine_model.specs.declared.row.Row.{Row}
use Rattle.mine_model.specs.Generation.{IsPatternOf}
use Rattle.mine_model.specs.Numbered.{tree_of}
use Rattle.mine_model.specs.Support.{Counts}
use Rattle.mine_model.specs.Ranks.{AreRanked}
use Rattle.search_tree.specs.SearchTree.{IsRowAt}
use Rattle.mine_model.proofs.RankedLemmas.{ranked-same}
use Rattle.mine_model.proofs.SupportLemmas.{Counts-unique}
use Rattle.mine_model.proofs.FrequencyLemmas.{Counts-by}
use Rattle.mine_model.proofs.AliveLemmas.{WeighAtLeast-counted, WeighAtLeast-some}
use Rattle.mining_job.specs.declared.part_seed.PartSeed.{PartSeed}
use Rattle.mining_job.specs.Problems.{Problem, data_of}
use Rattle.sequence_grids.specs.Grids.{GridList}
use Rattle.mining_job.specs.Parts.{IsComplete}
use Rattle.snapshot_project.specs.Extensions.{sequences_of, GeneratesWithin}
use Rattle.snapshot_project.proofs.BoundLemmas.{within-pivot}
use Rattle.snapshot_project.specs.Snapshots.{part_for}
use Rattle.dfs_growth.specs.Projections.{IsPartBy}
use Rattle.dfs_growth.proofs.PartLemmas.{for_part, Within, part-counts, generates-within}

module _ (problem : Problem) (seed : PartSeed) (complete : IsComplete problem seed) where
  abbrev IsPattern : List Item → List Item → Type 0
  IsPattern pattern items = IsPatternOf problem.hierarchy.links (tree_of problem.transducer.expression) items pattern

  -- what the part counts of a pattern within the bound is its support
  counted-pattern : (pattern : List Item) (ranks : List ℕ) (n : ℕ) → AreRanked problem.ranking.order pattern ranks → Within problem seed complete pattern
      → Counts (GeneratesWithin (part_for problem seed) ranks) (sequences_of (part_for problem seed)) n → Counts (IsPattern pattern) problem.sequences n
  counted-pattern pattern ranks n ranked within counted =
      let part = part_for problem seed in
      (part-counts problem seed complete (IsPattern pattern) (λ items is. (pattern, is, within)) n).0
      (Counts-by (GeneratesWithin part ranks) (IsPattern pattern) (generates-within problem seed complete pattern ranks ranked within) (sequences_of part) n counted)

  -- where something is counted, the pattern with these ranks is within the bound
  counted-within : (pattern : List Item) (ranks : List ℕ) (n : ℕ) → 1 ≤ n → AreRanked problem.ranking.order pattern ranks
      → Counts (GeneratesWithin (part_for problem seed) ranks) (sequences_of (part_for problem seed)) n
      → (pattern ≢ []) × Within problem seed complete pattern
  counted-within pattern ranks n some ranked counted =
      let part = part_for problem seed in
      let Has : List Item → Type 0 = GeneratesWithin part ranks in
      let (s, held, (other, also, is, inside)) = WeighAtLeast-some Has (sequences_of part) 1 (omega arith) ((WeighAtLeast-counted Has (sequences_of part) n 1 counted).1 some) in
      let same : other ≡ pattern = ranked-same problem.ranking.order other pattern ranks also ranked in (
        (λ none. is.0 (same ∙ none)),
        subst (Within problem seed complete) same ((within-pivot problem.ranking.order seed.pivot complete.least other).0 inside),
      )

-- the row of a prefix that reaches the threshold
pub row-enough : (problem : Problem) (pivot : ℕ) (part : GridList) → IsPartBy problem pivot part → 1 ≤ problem.threshold → (ranks : List ℕ) (pattern : List Item) (n : ℕ)
    → AreRanked problem.ranking.order pattern ranks → Counts (GeneratesWithin part ranks) (sequences_of part) n → problem.threshold ≤ n
    → IsRowAt (data_of problem) problem.ranking.order pivot ranks (record { pattern = pattern; support = n })
row-enough problem pivot part by_seed least ranks pattern n ranked =
    for_part problem pivot part by_seed
    (λ p q. Counts (GeneratesWithin q ranks) (sequences_of q) n → problem.threshold ≤ n → IsRowAt (data_of problem) problem.ranking.order p ranks (record { pattern = pattern; support = n }))
    (λ seed complete counted enough.
    let (some, within) = counted-within problem seed complete pattern ranks n (omega arith) ranked counted in
    record {
      ranked = ranked;
      within = within;
      frequent = record { not_empty = some; exact = counted-pattern problem seed complete pattern ranks n ranked within counted; enough = enough };
    })

-- a prefix that does not reach the threshold has no row
pub row-few : (problem : Problem) (pivot : ℕ) (part : GridList) → IsPartBy problem pivot part → (ranks : List ℕ) (n : ℕ)
    → Counts (GeneratesWithin part ranks) (sequences_of part) n → n < problem.threshold → (row : Row) → IsRowAt (data_of problem) problem.ranking.order pivot ranks row → ⊥
row-few problem pivot part by_seed ranks n =
    for_part problem pivot part by_seed
    (λ p q. Counts (GeneratesWithin q ranks) (sequences_of q) n → n < problem.threshold → (row : Row) → IsRowAt (data_of problem) problem.ranking.order p ranks row → ⊥)
    (λ seed complete counted few row at.
    let support : Counts (IsPattern problem seed complete row.pattern) problem.sequences n = counted-pattern problem seed complete row.pattern ranks n at.ranked at.within counted in
    let same : row.support ≡ n = Counts-unique (IsPattern problem seed complete row.pattern) problem.sequences row.support n at.frequent.exact support in
    let enough : problem.threshold ≤ row.support = at.frequent.enough in
    omega arith)
