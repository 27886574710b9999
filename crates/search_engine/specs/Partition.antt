-- A search by pivots: the parts of the article on pivots.
use Rattle.std.specs.Prelude.{◌≡◌, ◌≢◌, ℕ, ◌↔◌, List, [], ◌∷◌, length, AllPairs, Contains}
use Rattle.mine_model.specs.declared.item.Item.{Item}
use Rattle.mine_model.specs.declared.mined.Work.{Work}
use Rattle.mine_model.specs.Answer.{Data}
use Rattle.mine_model.specs.Growth.{IsSearchWork}
use Rattle.mine_model.specs.Pivots.{label_of, IsAliveLabel}
use Rattle.search_tree.specs.RankedPartition.{AreAlivePivots, IsRankedPartitionWork}
use Rattle.search_engine.specs.declared.division.Division.{Division}
use Rattle.search_engine.specs.declared.division.Division.TheVariants.{Whole, ByPivots}

-- the work of a search by these pivots, all alive: its nodes are their alive labels, and each has a part
pub record IsPartsWork (d : Data Item) (order : List Item) (pivots : List ℕ) (work : Work) : Type 0 where
  pub labels : List (List ℕ)
  pub once : AllPairs (λ first second. first ≢ second) labels
  pub alive : (label : List ℕ) → Contains labels label
      ↔ ((pivot : ℕ) × (ranks : List ℕ) × Contains pivots pivot × (label ≡ label_of pivot ranks)
      × IsAliveLabel d order pivot ranks)
  pub nodes : work.nodes ≡ length labels
  pub parts : work.parts ≡ length pivots
  pub candidates : work.candidates ≡ 0

-- the pivots of the roots: those that are alive where the search is split, and else 0 alone, which stands for
-- none
abbrev pub ArePivotsFor : Division → Data Item → List Item → List ℕ → Type 0
ArePivotsFor Whole d order pivots = pivots ≡ 0 ∷ []
ArePivotsFor ByPivots d order pivots = AreAlivePivots d order pivots

-- the work of a search, split by pivots or not
abbrev pub IsWorkFor : Division → Data Item → List Item → Work → Type 0
IsWorkFor Whole d order work = IsSearchWork d work
IsWorkFor ByPivots d order work = IsRankedPartitionWork d order work
