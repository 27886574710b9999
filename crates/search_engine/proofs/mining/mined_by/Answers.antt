use denote.Param.Send.{sendable}
use Rattle.std.proofs.Common.{◌≡◌, ℕ, List, length, map, sym, ap, ap₂, ◌∙◌, subst, arith}
use Rattle.std.proofs.lemmas.List.{length-map}
use Rattle.mine_model.specs.declared.mined.Work.{Work}
use Rattle.search_tree.specs.Cover.{Covers}
use Rattle.search_tree.specs.SearchTree.{IsSearchTree}
use Rattle.turn_lock.specs.History.{Made}
use Rattle.mining_job.specs.Problems.{Problem, data_of}
use Rattle.dfs_growth.specs.Nodes.{label_at}
use Rattle.result_board.specs.Board.{labels_of}
use Rattle.search_engine.specs.Searches.{tree_of}
use Rattle.search_engine.proofs.CrossingLemmas.{node-send, room-send}
use Rattle.search_engine.proofs.SearchLemmas.{walks-rows, walks-tree}
use Rattle.search_engine.proofs.mining.mined_by.Goals as goal

pub posted-requires-send-T : goal.posted-requires-send-T
posted-requires-send-T g c κs within = search (sendable, node-send) depth 10

pub posted-requires-send-S-Room : goal.posted-requires-send-S-Room
posted-requires-send-S-Room g c κs within = search (sendable, room-send) depth 10

pub posted-requires-clause-rows : goal.posted-requires-clause-rows
posted-requires-clause-rows g c κs within = walks-rows c.args.job.now c.threshold-threshold.ensures.whole c.args.search.now c.requires.problem

pub returns : goal.returns
returns g c =
    let search = c.args.search.now in
    let roots : length (map label_at c.args.roots.items) ≡ length (tree_of search).roots = ap (λ (l : List (List ℕ)). length l) c.requires.roots in
    let parts : c.len-parts.result ≡ length (tree_of search).roots =
    omega (arith, c.len-parts.ensures, c.args.roots.ok.0, length-map c.args.roots.items label_at, roots) in
    let nodes : c.into_parts-rows.result.1 ≡ length (labels_of c.in_ok-board.board.posted) =
    c.into_parts-rows.ensures.count ∙ sym (length-map c.in_ok-board.board.posted (λ (m : Made). m.1)) in
    let made : ℕ → ℕ → Work = λ n p. record { nodes = n; parts = p; candidates = 0 } in (
      labels_of c.in_ok-board.board.posted,
      subst (λ l. Covers l (tree_of search).kids (labels_of c.in_ok-board.board.posted)) c.requires.roots c.in_ok-board.ensures.cover,
      c.into_parts-rows.ensures.tree search.pivots (tree_of search)
          (subst (λ (p : Problem). IsSearchTree (data_of p) p.ranking.order search.pivots (tree_of search)) (sym c.in_ok-board.ensures.problem)
          (walks-tree c.args.job.now c.threshold-threshold.ensures.whole search c.requires.problem)),
      ap₂ made nodes parts,
    )
