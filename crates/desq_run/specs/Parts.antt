-- What a run for one share of the pivots finds, and its work. Pivots are from the article on pivots; shares
-- are this program's own.
use Rattle.std.specs.Prelude.{◌≡◌, ◌↔◌, ℕ, List, [], Contains}
use Rattle.mine_model.specs.declared.mined.Work.{Work}
use Rattle.mine_model.specs.Answer.{Data, NamedRow, Rises}
use Rattle.mine_model.specs.Growth.{IsAlive}
use Rattle.mine_model.specs.Numbers.{IsNumberOf}
use Rattle.mine_model.specs.PartitionWork.{IsPivotOf}
use Rattle.command_line.specs.declared.share.Share.{Share}
use Rattle.split_merge.specs.Shares.{IsInShare, IsRankList, IsFrequencyList, HasPlace, IsPivot, IsRowOfShare}

-- the rank of the item is in the share
abbrev pub HasItem : {A : Type 0} → Share → List A → A → Type 0
HasItem share order v = (rank : ℕ) × HasPlace order v rank × IsInShare share.index share.of rank

-- the pivot of the pattern is in the share
abbrev pub IsOfShare : {A : Type 0} → Share → List A → List A → Type 0
IsOfShare share order pattern =
    (pivot : ℕ) × IsPivot order pattern pivot × IsInShare share.index share.of pivot

-- The work of a search by the pivots of a share: its nodes are the pairs of such a pivot and a prefix that is
-- alive within the bound of this pivot, and each such pivot under which the empty prefix is alive has a part.
pub record IsShareWork {A : Type 0} (Ties : A → A → Type 0) (d : Data A) (share : Share) (work : Work)
    : Type 0 where
  pub order : List A
  pub list : IsRankList Ties d order
  pub nodes : IsNumberOf (λ (label : A × List A).
      HasItem share order label.0 × IsAlive d (IsPivotOf Ties d label.0) label.1) work.nodes
  pub parts : IsNumberOf (λ (pivot : A). HasItem share order pivot × IsAlive d (IsPivotOf Ties d pivot) [])
      work.parts
  pub candidates : work.candidates ≡ 0

-- the rows are exactly the rows with this property whose pivot is in the share, each once, in order
pub record IsPartBy (IsRow : NamedRow → Type 0) (d : Data (List ℕ)) (share : Share) (rows : List NamedRow)
    : Type 0 where
  pub order : List (List ℕ)
  pub list : IsFrequencyList d order
  pub ordered : Rises rows
  pub exact : (row : NamedRow)
      → Contains rows row ↔ (IsRow row × IsRowOfShare order share.index share.of row)
