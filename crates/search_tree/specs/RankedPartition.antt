-- The work of a search by pivots, told by the ranks of items. `IsPartitionWork` of mine_model tells it by
-- items.
use Rattle.std.specs.Prelude.{◌≡◌, ◌≢◌, ℕ, ◌≤◌, ◌<◌, ◌↔◌, List, [], length, AllPairs, Contains}
use Rattle.mine_model.specs.declared.item.Item.{Item}
use Rattle.mine_model.specs.declared.mined.Work.{Work}
use Rattle.mine_model.specs.Answer.{Data}
use Rattle.mine_model.specs.Pivots.{label_of, IsAliveLabel}

-- the pivots under whose bounds the empty prefix is alive, rising
pub record AreAlivePivots (d : Data Item) (order : List Item) (pivots : List ℕ) : Type 0 where
  pub rising : AllPairs (λ low high. low < high) pivots
  pub exact : (pivot : ℕ) → Contains pivots pivot ↔ ((1 ≤ pivot) × IsAliveLabel d order pivot [])

-- the work of a search by pivots, told by ranks: its nodes are the alive labels of pivots, and each alive
-- pivot has a part
pub record IsRankedPartitionWork (d : Data Item) (order : List Item) (work : Work) : Type 0 where
  pub labels : List (List ℕ)
  pub once : AllPairs (λ first second. first ≢ second) labels
  pub alive : (label : List ℕ) → Contains labels label
      ↔ ((pivot : ℕ) × (ranks : List ℕ) × (1 ≤ pivot) × (label ≡ label_of pivot ranks)
      × IsAliveLabel d order pivot ranks)
  pub nodes : work.nodes ≡ length labels
  pub pivots : List ℕ
  pub are_alive : AreAlivePivots d order pivots
  pub parts : work.parts ≡ length pivots
  pub candidates : work.candidates ≡ 0
