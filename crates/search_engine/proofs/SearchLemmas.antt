-- What a search grows is its tree, and the rows over a cover of the tree are the answer.
use Rattle.std.proofs.Common.{◌≡◌, ◌↔◌, ℕ, suc, ◌<◌, ◌≤◌, Option, IfSome, List, [], ◌∷◌, length, All, sym, ap₂, subst, arith}
use Rattle.std.specs.List.{AllByRecursion, AllPairs, Contains, filter_map}
use Rattle.mine_model.specs.declared.item.Item.{Item}
use Rattle.mine_model.specs.declared.mined.Work.{Work}
use Rattle.mine_model.specs.declared.row.Row.{Row}
use Rattle.search_tree.specs.Cover.{Covers, down_to}
use Rattle.mine_model.specs.Growth.{HasPatternBehind}
use Rattle.mine_model.specs.Answer.{IsFrequent}
use Rattle.mine_model.specs.Numbered.{PatternsDiffer, AreFrequent}
use Rattle.mine_model.specs.Pivots.{IsWithinPivot, IsAliveLabel}
use Rattle.search_tree.specs.SearchTree.{IsRowOf, AreKids, AreRootsOf, IsSearchTree}
use Rattle.mine_model.specs.Support.{HasFrequency}
use Rattle.search_tree.proofs.SearchAnswerLemmas.{search-rows, search-work}
use Rattle.search_tree.proofs.SearchTreeLemmas.{AreKids-same, IsRowOf-same, AreRootsOf-same, search-covers, longest, longest-all}
use Rattle.mining_job.specs.declared.part_seed.PartSeed.{PartSeed}
use Rattle.mining_job.specs.Parts.{pivot_of, IsComplete}
use Rattle.mining_job.specs.Problems.{Problem, IsWhole, data_of, items_of}
use Rattle.mining_job.proofs.ItemLemmas.{items-known, frequent-within}
use Rattle.dfs_growth.specs.Nodes.{Prefix, label_at}
use Rattle.dfs_growth.specs.Tree.{search_tree, roots_by, kids_by, row_by}
use Rattle.dfs_growth.proofs.TreeLemmas.{search_tree-is}
use Rattle.result_board.specs.Board.{HasRow}
use Rattle.search_engine.specs.declared.division.Division.{Division}
use Rattle.search_engine.specs.declared.division.Division.TheVariants.{Whole, ByPivots}
use Rattle.search_engine.specs.Partition.{IsPartsWork, ArePivotsFor, IsWorkFor}
use Rattle.search_engine.specs.Searches.{Search, tree_of}
use Rattle.search_engine.proofs.PartitionLemmas.{parts-once, parts-rows, parts-work, partition-rows, partition-work}
use Rattle.pivot_partition.specs.Pivots.{HasPivotIn}

-- a seed with the pivot takes the sequence
abbrev Takes : Problem → Option ℕ → ℕ → Type 0
Takes problem pivot i =
    (i < length problem.sequences) × HasPatternBehind (data_of problem) (IsWithinPivot problem.ranking.order (pivot_of pivot)) [] (items_of problem i)

-- a seed with the same pivot and the same sequences is as complete
pub complete-same : (problem : Problem) (seed copy : PartSeed) → copy.pivot ≡ seed.pivot → copy.sequences.items ≡ seed.sequences.items → IsComplete problem seed → IsComplete problem copy
complete-same problem seed copy pivot sequences is = record {
  least = subst (λ p. IfSome p (λ rank. 1 ≤ rank)) (sym pivot) is.least;
  most = subst (λ p. IfSome p (λ rank. rank ≤ length problem.ranking.order)) (sym pivot) is.most;
  rising = subst (AllPairs (λ low high. low < high)) (sym sequences) is.rising;
  exact = subst (λ l. (i : ℕ) → Contains l i ↔ Takes problem copy.pivot i) (sym sequences)
      (subst (λ p. (i : ℕ) → Contains seed.sequences.items i ↔ Takes problem p i) (sym pivot) is.exact);
}

module _ (problem : Problem) (whole : IsWhole problem) where
  -- what a node grows into is what the tree has there
  pub row-walked : (prefix : Prefix) → prefix.problem ≡ problem → (row : Option Row)
      → IsRowOf (data_of prefix.problem) prefix.problem.ranking.order prefix.pivot prefix.ranks row → row ≡ row_by problem (label_at prefix)
  row-walked prefix own row is =
      IsRowOf-same (data_of problem) problem.ranking.order prefix.pivot prefix.ranks row (row_by problem (label_at prefix))
      (subst (λ (p : Problem). IsRowOf (data_of p) p.ranking.order prefix.pivot prefix.ranks row) own is)
      ((search_tree-is problem whole []).row prefix.pivot prefix.ranks)

  pub kids-walked : (prefix : Prefix) → prefix.problem ≡ problem → (kids : List (List ℕ))
      → AreKids (data_of prefix.problem) prefix.problem.ranking.order prefix.pivot prefix.ranks kids → kids ≡ kids_by problem (label_at prefix)
  kids-walked prefix own kids are =
      AreKids-same (data_of problem) problem.ranking.order prefix.pivot prefix.ranks kids (kids_by problem (label_at prefix))
      (subst (λ (p : Problem). AreKids (data_of p) p.ranking.order prefix.pivot prefix.ranks kids) own are)
      ((search_tree-is problem whole []).kids prefix.pivot prefix.ranks)

  pub roots-walked : (pivots : List ℕ) (roots : List (List ℕ)) → AreRootsOf (data_of problem) problem.ranking.order pivots roots → roots ≡ roots_by problem pivots
  roots-walked pivots roots are =
      AreRootsOf-same (data_of problem) problem.ranking.order pivots roots (roots_by problem pivots) are (search_tree-is problem whole pivots).roots

  -- the tree is finite
  pub search-finite : (pivots : List ℕ) → Covers (roots_by problem pivots) (kids_by problem) (down_to (roots_by problem pivots) (kids_by problem) (suc (suc (longest problem.sequences))))
  search-finite pivots =
      search-covers (data_of problem) problem.ranking.order pivots (search_tree problem pivots) (search_tree-is problem whole pivots) whole.least
      (longest problem.sequences) (longest-all problem.sequences)

-- the tree of a search of the problem is finite
pub walks-finite : (problem : Problem) → IsWhole problem → (search : Search) → search.problem ≡ problem
    → Covers (tree_of search).roots (tree_of search).kids (down_to (tree_of search).roots (tree_of search).kids (suc (suc (longest search.problem.sequences))))
walks-finite problem whole search same = search-finite search.problem (subst IsWhole (sym same) whole) search.pivots

-- each label of a pivot has the row that the tree has there
pub walks-rows : (problem : Problem) → IsWhole problem → (search : Search) → search.problem ≡ problem → (label : List ℕ) → 1 ≤ length label
    → HasRow problem label ((tree_of search).row label)
walks-rows problem whole search same [] long = absurd (omega (arith, long))
walks-rows problem whole search same (pivot ∷ ranks) long =
    subst (λ (p : Problem). IsRowOf (data_of problem) problem.ranking.order pivot ranks (row_by p (pivot ∷ ranks))) (sym same)
    ((search_tree-is problem whole []).row pivot ranks)

-- a search of the problem, split by pivots or not
module _ (problem : Problem) (whole : IsWhole problem) (search : Search) (same : search.problem ≡ problem) where
  pub walks-tree : IsSearchTree (data_of problem) problem.ranking.order search.pivots (tree_of search)
  walks-tree = subst (λ (p : Problem). IsSearchTree (data_of problem) problem.ranking.order search.pivots (search_tree p search.pivots)) (sym same) (search_tree-is problem whole search.pivots)

  -- over a cover of its tree
  module _ (division : Division) (are_for : ArePivotsFor division (data_of problem) problem.ranking.order search.pivots)
      (labels : List (List ℕ)) (covers : Covers (tree_of search).roots (tree_of search).kids labels) where
    work-for : (division : Division) → ArePivotsFor division (data_of problem) problem.ranking.order search.pivots
        → IsWorkFor division (data_of problem) problem.ranking.order (record { nodes = length labels; parts = length (tree_of search).roots; candidates = 0 })
    work-for Whole one =
        search-work (data_of problem) problem.ranking whole.ranks (tree_of search) (subst (λ p. IsSearchTree (data_of problem) problem.ranking.order p (tree_of search)) one walks-tree)
        labels covers whole.least
    work-for ByPivots alive = partition-work (data_of problem) problem.ranking whole.ranks search.pivots alive (tree_of search) walks-tree labels covers

    pub walks-work : (nodes parts : ℕ) → nodes ≡ length labels → parts ≡ length (tree_of search).roots
        → IsWorkFor division (data_of problem) problem.ranking.order (record { nodes = nodes; parts = parts; candidates = 0 })
    walks-work nodes parts is_nodes is_parts =
        let made : ℕ → ℕ → Work = λ n p. record { nodes = n; parts = p; candidates = 0 } in
        subst (IsWorkFor division (data_of problem) problem.ranking.order) (ap₂ made (sym is_nodes) (sym is_parts)) (work-for division are_for)

    module _ (ends : All (λ link. (link.child.0 < problem.hierarchy.items) × (link.parent.0 < problem.hierarchy.items)) problem.hierarchy.links)
        (rows : List Row) (are : rows ≡ filter_map (tree_of search).row labels) where
      rows-for : (division : Division) → ArePivotsFor division (data_of problem) problem.ranking.order search.pivots
          → AreFrequent (data_of problem) (filter_map (tree_of search).row labels)
      rows-for Whole one =
          search-rows (data_of problem) problem.ranking whole.ranks (tree_of search) (subst (λ p. IsSearchTree (data_of problem) problem.ranking.order p (tree_of search)) one walks-tree)
          labels covers (items-known problem whole ends)
      rows-for ByPivots alive = partition-rows (data_of problem) problem.ranking whole.ranks search.pivots alive (tree_of search) walks-tree labels covers (items-known problem whole ends)

      pub walks-frequent : AreFrequent (data_of problem) rows
      walks-frequent = subst (AreFrequent (data_of problem)) (sym are) (rows-for division are_for)

      pub walks-within : (row : Row) → Contains rows row → AllByRecursion (λ (t : Item). t.0 < problem.hierarchy.items) row.pattern
      walks-within row held = frequent-within problem whole ends row ((walks-frequent.frequent row).0 held)

-- a search of the problem by the pivots of seeds
module _ (problem : Problem) (whole : IsWhole problem) (search : Search) (same : search.problem ≡ problem) (pivots : List ℕ) (are_pivots : search.pivots ≡ pivots)
    (rising : AllPairs (λ low high. low < high) pivots) (each : (pivot : ℕ) → Contains pivots pivot → (1 ≤ pivot) × IsAliveLabel (data_of problem) problem.ranking.order pivot [])
    (labels : List (List ℕ)) (covers : Covers (tree_of search).roots (tree_of search).kids labels) where
  parts-tree : IsSearchTree (data_of problem) problem.ranking.order pivots (tree_of search)
  parts-tree = subst (λ p. IsSearchTree (data_of problem) problem.ranking.order p (tree_of search)) are_pivots (walks-tree problem whole search same)

  pub walks-parts-work : (work : Work) → work ≡ record { nodes = length labels; parts = length (tree_of search).roots; candidates = 0 }
      → IsPartsWork (data_of problem) problem.ranking.order pivots work
  walks-parts-work work is =
      subst (IsPartsWork (data_of problem) problem.ranking.order pivots) (sym is) (parts-work (data_of problem) problem.ranking whole.ranks pivots rising each (tree_of search) parts-tree labels covers)

  module _ (rows : List Row) (are : rows ≡ filter_map (tree_of search).row labels) where
    pub walks-parts-once : PatternsDiffer rows
    walks-parts-once = subst PatternsDiffer (sym are) (parts-once (data_of problem) problem.ranking whole.ranks pivots rising each (tree_of search) parts-tree labels covers)

    pub walks-parts-rows : ((w : Item) → (m : ℕ) × HasFrequency problem.hierarchy.links problem.sequences w m) → (row : Row) → Contains rows row
        ↔ (IsFrequent (data_of problem) row.pattern row.support × HasPivotIn problem.ranking.order pivots row.pattern)
    walks-parts-rows known row =
        subst (λ (l : List Row). Contains l row ↔ (IsFrequent (data_of problem) row.pattern row.support × HasPivotIn problem.ranking.order pivots row.pattern)) (sym are)
        (parts-rows (data_of problem) problem.ranking whole.ranks pivots rising each (tree_of search) parts-tree labels covers known row)
