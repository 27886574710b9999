-- The search tree of a problem as a function: whether a prefix is alive is computed from all outputs of the
-- transducer's paths, by their ranks.
use Rattle.std.specs.Prelude.{ℕ, zero, suc, ◌+◌, ◌==◌, nat_le, Bool, true, false, ◌&&◌, cond, Option, Some, None, List, [], ◌∷◌, ◌++◌, map, filter, length}
use Rattle.std.specs.List.{flat_map, range_with_len, list_any, list_all}
use Rattle.std.specs.Int.{bit_at}
use Rattle.std.specs.Str.{bytes_eq}
use Rattle.mine_model.specs.declared.item.Item.{Item}
use Rattle.mine_model.specs.declared.row.Row.{Row}
use Rattle.mine_model.specs.Decided.{matches, may_write}
use Rattle.mine_model.specs.Numbered.{leaf_of}
use Rattle.mine_model.specs.Support.{Sequence}
use Rattle.mine_model.specs.Pivots.{item_of_rank, label_of}
use Rattle.search_tree.specs.SearchTree.{SearchTree}
use Rattle.fst_compile.specs.declared.edge.Edge.{Edge}
use Rattle.fst_compile.specs.Transducer.{edges_from}
use Rattle.mining_job.specs.Problems.{Problem}

-- the ranks of what paths write

-- all ranks
abbrev pub all_ranks : Problem → List ℕ
all_ranks problem = range_with_len 1 (length problem.ranking.order)

-- what the edge may write at t, where it has ranks
unfoldable pub written_by : Problem → Edge → Item → List (List ℕ)
written_by problem edge t = cond edge.captured
    (map (λ rank. rank ∷ []) (filter (λ rank. may_write problem.hierarchy.links (leaf_of edge.leaf) t
    (item_of_rank problem.ranking.order rank)) (all_ranks problem)))
    ([] ∷ [])

-- and what is written behind it
unfoldable pub outputs_by : Problem → Edge → Item → List (List ℕ) → List (List ℕ)
outputs_by problem edge t behind = cond (matches problem.hierarchy.links (leaf_of edge.leaf) t)
    (flat_map (λ here. map (λ there. here ++ there) behind) (written_by problem edge t)) []

-- what the paths from the state over the items write, where that has ranks
unfoldable pub outputs_from : Problem → ℕ → List Item → List (List ℕ)
outputs_from problem state [] = cond (bit_at problem.transducer.finals state == 1) ([] ∷ []) []
outputs_from problem state (t ∷ items) =
    flat_map (λ edge. outputs_by problem edge t (outputs_from problem edge.to.0 items))
    (edges_from problem.transducer state)

-- tests of ranks

unfoldable pub begin_with : List ℕ → List ℕ → Bool
begin_with [] ranks = true
begin_with (rank ∷ prefix) [] = false
begin_with (rank ∷ prefix) (other ∷ ranks) = rank == other && begin_with prefix ranks

abbrev pub is_some_rank : List ℕ → Bool
is_some_rank [] = false
is_some_rank (rank ∷ ranks) = true

-- within the bound of the pivot
unfoldable pub are_within : ℕ → List ℕ → Bool
are_within zero ranks = true
are_within (suc before) ranks =
    list_all (λ rank. nat_le rank (suc before)) ranks && list_any (λ rank. rank == suc before) ranks

-- the items have a pattern behind the prefix with these ranks, within the bound of the pivot
unfoldable pub grows : Problem → ℕ → List ℕ → List Item → Bool
grows problem pivot ranks items =
    list_any (λ output. is_some_rank output && (begin_with ranks output && are_within pivot output))
    (outputs_from problem 0 items)

-- the items have the pattern with these ranks
unfoldable pub generates : Problem → List ℕ → List Item → Bool
generates problem ranks items =
    list_any (λ output. is_some_rank output && bytes_eq ranks output)
    (outputs_from problem 0 items)

-- what the sequences weigh whose items pass
unfoldable pub weight_of : (List Item → Bool) → List (Sequence Item) → ℕ
weight_of passes [] = 0
weight_of passes (sequence ∷ sequences) = cond (passes sequence.items)
    (sequence.weight + weight_of passes sequences) (weight_of passes sequences)

-- the tree

unfoldable pub is_alive : Problem → ℕ → List ℕ → Bool
is_alive problem pivot ranks =
    nat_le problem.threshold (weight_of (grows problem pivot ranks) problem.sequences)

unfoldable pub roots_by : Problem → List ℕ → List (List ℕ)
roots_by problem [] = []
roots_by problem (pivot ∷ pivots) =
    cond (is_alive problem pivot []) (label_of pivot [] ∷ roots_by problem pivots) (roots_by problem pivots)

unfoldable pub kids_by : Problem → List ℕ → List (List ℕ)
kids_by problem [] = []
kids_by problem (pivot ∷ ranks) = map (λ rank. label_of pivot (ranks ++ rank ∷ []))
    (filter (λ rank. is_alive problem pivot (ranks ++ rank ∷ [])) (all_ranks problem))

abbrev pub support_of : Problem → List ℕ → ℕ
support_of problem ranks = weight_of (generates problem ranks) problem.sequences

unfoldable pub row_by : Problem → List ℕ → Option Row
row_by problem [] = None
row_by problem (pivot ∷ ranks) = cond
    (are_within pivot ranks && nat_le problem.threshold (support_of problem ranks))
    (Some (record {
      pattern = map (item_of_rank problem.ranking.order) ranks;
      support = support_of problem ranks;
    }))
    None

-- the tree of the search by these pivots
abbrev pub search_tree : Problem → List ℕ → SearchTree
search_tree problem pivots = record {
  roots = roots_by problem pivots;
  kids = kids_by problem;
  row = row_by problem;
}
