-- Boards with one label more, and the rows of the labels of a search tree.
use Rattle.std.proofs.Common.{◌≡◌, ℕ, Option, Some, None, List, [], ◌∷◌, ◌++◌, length, refl, sym, ap, ◌∙◌, append_assoc}
use Rattle.std.specs.List.{filter_map}
use Rattle.std.specs.Option.{option_to_list}
use Rattle.std.proofs.lemmas.List.{append-nil, length-map, map_push}
use Rattle.std.specs.declared.snapshot.Snapshot.{Snapshot}
use Rattle.mine_model.specs.declared.row.Row.{Row}
use Rattle.search_tree.specs.SearchTree.{SearchTree, IsSearchTree}
use Rattle.search_tree.proofs.SearchTreeLemmas.{IsRowOf-same}
use Rattle.mining_job.specs.Problems.{Problem, data_of}
use Rattle.turn_lock.specs.History.{Made}
use Rattle.result_board.specs.declared.board.Entry.{Entry}
use Rattle.result_board.specs.Entries.{history_of}
use Rattle.result_board.specs.Board.{HasRow, AreRowsOf, labels_of, IsBoard}

-- as many labels as entries
pub history-length : (entries : List Entry) → length (history_of entries) ≡ length entries
history-length entries = length-map {B = Made} entries (λ (entry : Entry). (entry.number, entry.label.value))

-- one entry more
pub history_more : (entries next : List Entry) (number : ℕ) (label : List ℕ) (snapshot : Snapshot (List ℕ))
    → next ≡ entries ++ (record { number = number; label = snapshot }) ∷ [] → snapshot.value ≡ label
    → history_of next ≡ history_of entries ++ (number, label) ∷ []
history_more entries next number label snapshot e is =
    ap history_of e ∙ map_push (λ (entry : Entry). (entry.number, entry.label.value)) entries (record { number = number; label = snapshot })
    ∙ ap (λ l. history_of entries ++ (number, l) ∷ []) is

-- one label more, with its row
pub rows_more : (problem : Problem) (labels : List (List ℕ)) (rows : List Row) (label : List ℕ) (row : Option Row)
    → AreRowsOf problem labels rows → HasRow problem label row → AreRowsOf problem (labels ++ label ∷ []) (rows ++ option_to_list row)
rows_more problem [] rows label row are has = (row, [], has, refl, ap (λ others. others ++ option_to_list row) are ∙ sym (append-nil (option_to_list row)))
rows_more problem (first ∷ labels) rows label row are has =
    (are.0, are.1 ++ option_to_list row, are.2, rows_more problem labels are.1 label row are.3 has, ap (λ all. all ++ option_to_list row) are.4 ∙ append_assoc (option_to_list are.0) are.1 (option_to_list row))

-- the board with one label more
pub board_more : (problem : Problem) (posted next : List Made) (rows others : List Row) (number : ℕ) (label : List ℕ) (row : Option Row)
    → IsBoard (record { problem = problem; posted = posted; rows = rows }) → HasRow problem label row
    → next ≡ posted ++ (number, label) ∷ [] → others ≡ rows ++ option_to_list row
    → IsBoard (record { problem = problem; posted = next; rows = others })
board_more problem posted next rows others number label row is has e f =
    rw (e, f, map_push (λ (c : Made). c.1) posted (number, label)) (rows_more problem (labels_of posted) rows label row is has)

-- the label has one row
HasRow-tree : (problem : Problem) (pivots : List ℕ) (tree : SearchTree) → IsSearchTree (data_of problem) problem.ranking.order pivots tree
    → (label : List ℕ) (row : Option Row) → HasRow problem label row → tree.row label ≡ row
HasRow-tree problem pivots tree is [] row has = absurd has
HasRow-tree problem pivots tree is (pivot ∷ ranks) row has = IsRowOf-same (data_of problem) problem.ranking.order pivot ranks (tree.row (pivot ∷ ranks)) row (is.row pivot ranks) has

filter_map-cons : {X Y : Type 0} (f : X → Option Y) (x : X) (xs : List X) (found : Option Y) → f x ≡ found → filter_map f (x ∷ xs) ≡ option_to_list found ++ filter_map f xs
filter_map-cons f x xs None e = rw e refl
filter_map-cons f x xs (Some y) e = rw e refl

-- the rows of the labels are those that the search tree gives
pub rows-tree : (problem : Problem) (pivots : List ℕ) (tree : SearchTree) → IsSearchTree (data_of problem) problem.ranking.order pivots tree
    → (labels : List (List ℕ)) (rows : List Row) → AreRowsOf problem labels rows → rows ≡ filter_map tree.row labels
rows-tree problem pivots tree is [] rows are = are
rows-tree problem pivots tree is (label ∷ labels) rows are =
    are.4 ∙ ap (λ others. option_to_list are.0 ++ others) (rows-tree problem pivots tree is labels are.1 are.3)
    ∙ sym (filter_map-cons tree.row label labels are.0 (HasRow-tree problem pivots tree is label are.0 are.2))
