-- What may follow a prefix in the sequences of a part.
use Rattle.std.specs.Prelude.{◌≡◌, ℕ, ◌≤◌, ◌<◌, List, [], ◌∷◌, ◌++◌, map, AllPairs, Contains}
use Rattle.mine_model.specs.declared.item.Item.{Item}
use Rattle.mine_model.specs.Numbered.{tree_of}
use Rattle.mine_model.specs.Database.{sequence_at}
use Rattle.mine_model.specs.Generation.{IsPatternOf}
use Rattle.mine_model.specs.Support.{Sequence, Counts}
use Rattle.mine_model.specs.Growth.{WeighAtLeast, HasPatternBehind}
use Rattle.mine_model.specs.Ranks.{AreRanked}
use Rattle.mine_model.specs.Pivots.{IsWithin}
use Rattle.mining_job.specs.Problems.{data_of}
use Rattle.sequence_grids.specs.Grids.{GridList}
use Rattle.snapshot_project.specs.declared.next_rank.NextRank.{NextRank}

-- the sequences of the part, with their weights
abbrev pub sequences_of : GridList → List (Sequence Item)
sequences_of part = map (λ i. sequence_at part.problem.sequences i) part.sequences

-- the items have a pattern within the part's bound that begins with the prefix with these ranks
abbrev pub GrowsBehind : GridList → List ℕ → List Item → Type 0
GrowsBehind part ranks items =
    (prefix : List Item) × AreRanked part.problem.ranking.order prefix ranks
    × HasPatternBehind (data_of part.problem)
    (IsWithin part.problem.ranking.order part.bound.top part.bound.need) prefix items

-- the prefix with these ranks is itself a pattern of the items within the part's bound
abbrev pub GeneratesWithin : GridList → List ℕ → List Item → Type 0
GeneratesWithin part ranks items =
    (pattern : List Item) × AreRanked part.problem.ranking.order pattern ranks
    × IsPatternOf part.problem.hierarchy.links (tree_of part.problem.transducer.expression) items pattern
    × IsWithin part.problem.ranking.order part.bound.top part.bound.need pattern

-- the rank can follow the prefix in sequences of the part that weigh so much together
abbrev pub CanFollow : GridList → List ℕ → ℕ → ℕ → Type 0
CanFollow part ranks rank weight = Counts (GrowsBehind part (ranks ++ rank ∷ [])) (sequences_of part) weight

-- the sequences of the part that have the prefix itself as a pattern weigh so much together
abbrev pub IsSupportOf : GridList → List ℕ → ℕ → Type 0
IsSupportOf part ranks support = Counts (GeneratesWithin part ranks) (sequences_of part) support

-- exactly the ranks that can follow the prefix in sequences that weigh at least so much, rising, each with
-- the weight of these sequences, and the support of the prefix with the rank
pub record AreNextRanks (part : GridList) (ranks : List ℕ) (least : ℕ) (found : List NextRank) : Type 0 where
  pub rising : AllPairs (λ low high. low.rank < high.rank) found
  pub right : (next : NextRank) → Contains found next
      → (least ≤ next.weight) × CanFollow part ranks next.rank next.weight
      × IsSupportOf part (ranks ++ next.rank ∷ []) next.support
  pub all : (rank : ℕ) → WeighAtLeast (GrowsBehind part (ranks ++ rank ∷ [])) (sequences_of part) least
      → (next : NextRank) × Contains found next × (next.rank ≡ rank)
