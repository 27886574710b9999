-- The board of a search: the labels that were posted, and their rows.
use Rattle.std.specs.Prelude.{◌≡◌, ℕ, Option, List, [], ◌∷◌, ◌++◌, map}
use Rattle.std.specs.Option.{option_to_list}
use Rattle.mine_model.specs.declared.row.Row.{Row}
use Rattle.search_tree.specs.SearchTree.{IsRowOf}
use Rattle.mining_job.specs.Problems.{Problem, data_of}
use Rattle.turn_lock.specs.History.{Made}

-- a label, and its row where it has one
pub record Posting : Type 0 where
  pub label : List ℕ
  pub row : Option Row

-- the label has this row in the search of the problem, or none; a list with no pivot is no label
abbrev pub HasRow : Problem → List ℕ → Option Row → Type 0
HasRow problem [] row = ⊥
HasRow problem (pivot ∷ ranks) row = IsRowOf (data_of problem) problem.ranking.order pivot ranks row

-- the rows are those of the labels, in their order
abbrev pub AreRowsOf : Problem → List (List ℕ) → List Row → Type 0
AreRowsOf problem [] rows = rows ≡ []
AreRowsOf problem (label ∷ labels) rows =
    (row : Option Row) × (others : List Row) × HasRow problem label row × AreRowsOf problem labels others
    × (rows ≡ option_to_list row ++ others)

-- the labels that were posted, each behind the number of the pass that posted it, and the rows of them all
pub record BoardRows : Type 0 where
  pub problem : Problem
  pub posted : List Made
  pub rows : List Row

-- the labels that were posted, in their order
abbrev pub labels_of : List Made → List (List ℕ)
labels_of posted = map (λ c. c.1) posted

-- the rows of the board are those of its labels
abbrev pub IsBoard : BoardRows → Type 0
IsBoard board = AreRowsOf board.problem (labels_of board.posted) board.rows
