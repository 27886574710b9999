-- The ranks of frequent items, the f-list of the DESQ article. The order of items of one frequency is own.
use Rattle.std.specs.Prelude.{◌≡◌, ◌≢◌, ℕ, ◌-◌, ◌^◌, ◌≤◌, ◌<◌, ◌↔◌, List, [], ◌∷◌, length, All, AllPairs, Contains}
use Rattle.std.specs.List.{slice_get, slice_index}
use Rattle.std.specs.Ordering.{nat_cmp}
use Rattle.std.specs.Cmp.Lexicographic.{slice_cmp}
use Rattle.std.specs.declared.cmp.Ordering.TheVariants.{Less}
use Rattle.std.specs.declared.option.Option.TheVariants.{Some}
use Rattle.mine_model.specs.declared.item.Item.{Item}
use Rattle.mine_model.specs.Hierarchy.{Link}
use Rattle.mine_model.specs.Candidates.{IsFrequentItem}
use Rattle.mine_model.specs.Names.{name_of}
use Rattle.mine_model.specs.Support.{Sequence, HasFrequency}

-- items in an order, and a frequency for each item, by its number
pub record Ranking : Type 0 where
  pub order : List Item
  pub frequencies : List ℕ

-- the rank of the item is its place in the order, counted from 1
pub record HasRank (order : List Item) (item : Item) (rank : ℕ) : Type 0 where
  pub least : 1 ≤ rank
  pub place : slice_get order (rank - 1) ≡ Some item

-- the items have these ranks, one by one
abbrev pub AreRanked : List Item → List Item → List ℕ → Type 0
AreRanked order [] [] = Unit {0}
AreRanked order [] (rank ∷ ranks) = ⊥
AreRanked order (v ∷ items) [] = ⊥
AreRanked order (v ∷ items) (rank ∷ ranks) = HasRank order v rank × AreRanked order items ranks

-- each list of items has the ranks of the list at its place
abbrev pub AreAllRanked : List Item → List (List Item) → List (List ℕ) → Type 0
AreAllRanked order [] [] = Unit {0}
AreAllRanked order [] (ranks ∷ lists) = ⊥
AreAllRanked order (items ∷ patterns) [] = ⊥
AreAllRanked order (items ∷ patterns) (ranks ∷ lists) =
    AreRanked order items ranks × AreAllRanked order patterns lists

-- the list has the frequency of each item, by its number
abbrev pub AreFrequencies : List (Link Item) → List (Sequence Item) → List ℕ → Type 0
AreFrequencies links sequences frequencies =
    (w : Item) → w.0 < length frequencies → HasFrequency links sequences w (slice_index frequencies w.0)

abbrev pub frequency_in : Ranking → Item → ℕ
frequency_in ranking w = slice_index ranking.frequencies w.0

-- The ranking is that of the sequences: it has the frequency of each item, and ranks the frequent items
-- alone, each once, by falling frequency.
pub record AreRanks (links : List (Link Item)) (sequences : List (Sequence Item)) (threshold : ℕ)
    (ranking : Ranking) : Type 0 where
  pub exact : AreFrequencies links sequences ranking.frequencies
  pub frequent : (w : Item) → Contains ranking.order w ↔ IsFrequentItem links sequences threshold w
  pub once : AllPairs (λ v w. v ≢ w) ranking.order
  pub falling : AllPairs (λ v w. frequency_in ranking w ≤ frequency_in ranking v) ranking.order

-- items of one frequency stand by their names: in byte order, a proper prefix first
abbrev pub AreTiesByName : List (List ℕ) → Ranking → Type 0
AreTiesByName names ranking =
    AllPairs (λ v w. frequency_in ranking v ≡ frequency_in ranking w
    → slice_cmp nat_cmp (name_of names v) (name_of names w) ≡ Less) ranking.order

-- what the proofs keep

-- the table has the rank of each item by its number, and 0 for an item that has none
pub record IsRankTable (order : List Item) (table : List ℕ) : Type 0 where
  pub ranked : (w : Item) → (slice_index table w.0 ≡ 0 → ⊥) → HasRank order w (slice_index table w.0)
  pub unranked : (w : Item) → slice_index table w.0 ≡ 0 → Contains order w → ⊥

-- the order, its table and the frequencies belong together
pub record AreKept (order : List Item) (table frequencies : List ℕ) : Type 0 where
  pub ranks : IsRankTable order table
  pub whole : length table ≡ length frequencies
  pub different : AllPairs (λ v w. v ≢ w) order
  pub within : All (λ w. w.0 < length frequencies) order
  pub few : length frequencies < 2 ^ 32
