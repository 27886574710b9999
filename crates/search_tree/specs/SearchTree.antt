-- The tree that a search by prefixes walks. Bounds and pivots are from the article on pivots; labels are own.
use Rattle.std.specs.Prelude.{◌≡◌, ℕ, ◌<◌, ◌⊎◌, ◌↔◌, Option, Some, None, List, [], ◌∷◌, ◌++◌, map, AllPairs, Contains}
use Rattle.mine_model.specs.declared.item.Item.{Item}
use Rattle.mine_model.specs.declared.row.Row.{Row}
use Rattle.mine_model.specs.Answer.{Data, IsFrequent}
use Rattle.mine_model.specs.Pivots.{IsWithinPivot, label_of, IsAliveLabel}
use Rattle.mine_model.specs.Ranks.{AreRanked}

-- the kids of a label: the alive labels that are longer by one rank, by rising rank
pub record AreKids (d : Data Item) (order : List Item) (pivot : ℕ) (ranks : List ℕ)
    (kids : List (List ℕ)) : Type 0 where
  pub next : List ℕ
  pub rising : AllPairs (λ low high. low < high) next
  pub exact : (rank : ℕ) → Contains next rank ↔ IsAliveLabel d order pivot (ranks ++ rank ∷ [])
  pub longer : kids ≡ map (λ rank. label_of pivot (ranks ++ rank ∷ [])) next

-- the row of a label: its prefix, where that is frequent and within the bound of the pivot
pub record IsRowAt (d : Data Item) (order : List Item) (pivot : ℕ) (ranks : List ℕ) (row : Row) : Type 0 where
  pub ranked : AreRanked order row.pattern ranks
  pub within : IsWithinPivot order pivot row.pattern
  pub frequent : IsFrequent d row.pattern row.support

-- the label has this row, or none
abbrev pub IsRowOf : Data Item → List Item → ℕ → List ℕ → Option Row → Type 0
IsRowOf d order pivot ranks None = (row : Row) → IsRowAt d order pivot ranks row → ⊥
IsRowOf d order pivot ranks (Some row) = IsRowAt d order pivot ranks row

-- the roots of these pivots, one for each whose empty prefix is alive, in their order
abbrev pub AreRootsOf : Data Item → List Item → List ℕ → List (List ℕ) → Type 0
AreRootsOf d order [] roots = roots ≡ []
AreRootsOf d order (pivot ∷ pivots) roots =
    (IsAliveLabel d order pivot []
    × ((others : List (List ℕ)) × (roots ≡ label_of pivot [] ∷ others) × AreRootsOf d order pivots others))
    ⊎ ((IsAliveLabel d order pivot [] → ⊥) × AreRootsOf d order pivots roots)

-- roots, the kids of each label, and its row, where it has one
pub record SearchTree : Type 0 where
  pub roots : List (List ℕ)
  pub kids : List ℕ → List (List ℕ)
  pub row : List ℕ → Option Row

-- the tree of the search by these pivots, where 0 alone stands for a search without pivots; a list with no
-- pivot is no label
pub record IsSearchTree (d : Data Item) (order : List Item) (pivots : List ℕ) (tree : SearchTree)
    : Type 0 where
  pub roots : AreRootsOf d order pivots tree.roots
  pub kids : (pivot : ℕ) (ranks : List ℕ) → AreKids d order pivot ranks (tree.kids (label_of pivot ranks))
  pub row : (pivot : ℕ) (ranks : List ℕ) → IsRowOf d order pivot ranks (tree.row (label_of pivot ranks))
  pub no_kids : tree.kids [] ≡ []
  pub no_row : tree.row [] ≡ None
