use Rattle.std.proofs.Common.{◌≡◌, length, ap, sym, subst, arith}
use Rattle.std.specs.List.{filter_map}
use Rattle.mining_job.specs.Problems.{data_of}
use Rattle.search_tree.specs.SearchTree.{IsSearchTree}
use Rattle.result_board.specs.Entries.{history_of}
use Rattle.result_board.specs.Board.{BoardRows, labels_of}
use Rattle.result_board.proofs.BoardLemmas.{history-length, rows-tree}
use Rattle.result_board.proofs.board.Board.into_parts.Goals as goal

pub returns-clause-count : goal.returns-clause-count
returns-clause-count c =
    let inside = c.self.inside in
    omega (arith, c.len.ensures, history-length inside.entries.items, ap (λ (b : BoardRows). length b.posted) c.self.view_is)

pub returns-clause-tree : goal.returns-clause-tree
returns-clause-tree c pivots tree is =
    let inside = c.self.inside in
    let of_inside = subst (λ (b : BoardRows). IsSearchTree (data_of b.problem) b.problem.ranking.order pivots tree) (sym c.self.view_is) is in
    subst (λ (b : BoardRows). inside.rows.items ≡ filter_map tree.row (labels_of b.posted)) c.self.view_is
    (rows-tree inside.job.value pivots tree of_inside (labels_of (history_of inside.entries.items)) inside.rows.items c.self.invariant)
