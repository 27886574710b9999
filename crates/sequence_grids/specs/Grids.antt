-- What can still come of a place in a sequence and a state. The bounds are from the article on pivots.
use Rattle.std.specs.Prelude.{◌≡◌, ℕ, ◌-◌, ◌≤◌, Bool, ◌⊎◌, IsTrue, List, [], ◌∷◌, Contains, Option, Some, None, slice_get, slice_index, drop}
use Rattle.std.specs.List.{AllByRecursion}
use Rattle.mine_model.specs.declared.item.Item.{Item}
use Rattle.mine_model.specs.Numbered.{leaf_of}
use Rattle.mine_model.specs.Generation.{Matches, WritesAt}
use Rattle.mine_model.specs.Ranks.{Ranking, HasRank}
use Rattle.mine_model.specs.Pivots.{IsRankedUpTo}
use Rattle.fst_compile.specs.declared.edge.Label.{Label}
use Rattle.fst_compile.specs.Transducer.{IsPath}
use Rattle.mining_job.specs.declared.bound.Bound.{Bound}
use Rattle.mining_job.specs.Problems.{Problem, items_of}

-- the item has a rank up to the top
abbrev pub IsAllowed : Ranking → Bound → Item → Type 0
IsAllowed ranking bound v = IsRankedUpTo ranking.order bound.top v

-- the item is the one that is needed; where none is, any is
abbrev pub IsNeeded : Ranking → Option ℕ → Item → Type 0
IsNeeded ranking None v = Unit {0}
IsNeeded ranking (Some need) v = HasRank ranking.order v need

-- the output holds what is needed
abbrev pub HoldsNeeded : Ranking → Option ℕ → List Item → Type 0
HoldsNeeded ranking need output = (v : Item) × Contains output v × IsNeeded ranking need v

-- Some path from the state over the rest of a sequence ends in a final state and writes allowed items alone,
-- and what is needed was seen or is among them.
abbrev pub Completes : Problem → Bound → List Item → ℕ → Bool → Type 0
Completes problem bound rest state seen =
    (output : List Item) × IsPath problem.hierarchy.links problem.transducer state rest output
    × AllByRecursion (IsAllowed problem.ranking bound) output
    × (IsTrue seen ⊎ HoldsNeeded problem.ranking bound.need output)

-- the same of a path that writes something
abbrev pub Continues : Problem → Bound → List Item → ℕ → Bool → Type 0
Continues problem bound rest state seen =
    (v : Item) × (more : List Item) × IsPath problem.hierarchy.links problem.transducer state rest (v ∷ more)
    × AllByRecursion (IsAllowed problem.ranking bound) (v ∷ more)
    × (IsTrue seen ⊎ HoldsNeeded problem.ranking bound.need (v ∷ more))

-- some path from the state over the rest of a sequence ends in a final state and writes nothing
abbrev pub Ends : Problem → List Item → ℕ → Type 0
Ends problem rest state = IsPath problem.hierarchy.links problem.transducer state rest []

-- an edge into the state reads t and writes the output
abbrev pub Reads : Problem → Item → ℕ → List Item → Type 0
Reads problem t state output =
    (label : Label) × (slice_get problem.transducer.labels (state - 1) ≡ Some label)
    × Matches problem.hierarchy.links (leaf_of label.leaf) t
    × WritesAt problem.hierarchy.links (leaf_of label.leaf) label.captured t output

-- an edge into the state may read t and write the item with the rank, which is allowed
abbrev pub WritesRank : Problem → Bound → Item → ℕ → ℕ → Type 0
WritesRank problem bound t state rank =
    (v : Item) × HasRank problem.ranking.order v rank × (rank ≤ bound.top) × Reads problem t state (v ∷ [])

-- grids of a problem under a bound: those of the sequences with these numbers, in this order
pub record GridList : Type 0 where
  pub problem : Problem
  pub bound : Bound
  pub sequences : List ℕ

-- the items of the sequence whose grid stands at this place of the list
abbrev pub items_at : GridList → ℕ → List Item
items_at grids index = items_of grids.problem (slice_index grids.sequences index)

-- what of them is still to be read at the position
abbrev pub rest_at : GridList → ℕ → ℕ → List Item
rest_at grids index position = drop position (items_at grids index)
