-- The computed tree is the search tree.
use Rattle.std.proofs.Common.{◌≡◌, ℕ, ◌+◌, ◌≤◌, ◌<◌, inl, inr, Bool, true, ◌&&◌, Some, None, List, [], ◌∷◌, ◌++◌, map, filter, length, refl, sym, ◌∙◌, subst, arith, leb}
use Rattle.std.specs.Bool.{Decides}
use Rattle.std.proofs.lemmas.Bool.{and_parts, and_from, false≢true, cases_Bool, cond-true, cond-false, leb-true, le-leb}
use Rattle.std.proofs.lemmas.List.Elements.{Contains-push}
use Rattle.std.proofs.lemmas.List.Kept.{AllPairs-filter}
use Rattle.mine_model.specs.declared.item.Item.{Item}
use Rattle.mine_model.specs.declared.row.Row.{Row}
use Rattle.mine_model.specs.Numbered.{tree_of}
use Rattle.mine_model.specs.Generation.{IsPatternOf}
use Rattle.mine_model.specs.Support.{Sequence, Counts}
use Rattle.mine_model.specs.Ranks.{AreRanked}
use Rattle.mine_model.specs.Growth.{HasPatternBehind}
use Rattle.mine_model.specs.Pivots.{item_of_rank, IsWithinPivot, label_of, IsAliveLabel}
use Rattle.search_tree.specs.SearchTree.{AreKids, IsRowAt, IsRowOf, AreRootsOf, IsSearchTree}
use Rattle.mine_model.proofs.ListLemmas.{Contains-filter, filter-Contains}
use Rattle.mine_model.proofs.SupportLemmas.{Counts-unique}
use Rattle.mine_model.proofs.RankedLemmas.{ranked-same, ranked-bounds}
use Rattle.mine_model.proofs.AliveLemmas.{IsAlive-counted}
use Rattle.search_tree.proofs.SearchAnswerLemmas.{ranked-items}
use Rattle.mining_job.specs.Problems.{Problem, IsWhole, data_of}
use Rattle.dfs_growth.specs.Tree.{all_ranks, are_within, grows, generates, weight_of, support_of, is_alive, roots_by, kids_by, row_by, search_tree}
use Rattle.dfs_growth.proofs.TestLemmas.{range-back, range-rises, within-Decides}
use Rattle.dfs_growth.proofs.OutputLemmas.{grows-forth, grows-back, generates-forth, generates-back}

-- What passes

pub weight-counted : (passes : List Item → Bool) (Has : List Item → Type 0) → ((items : List Item) → Decides (passes items) (Has items))
    → (sequences : List (Sequence Item)) → Counts Has sequences (weight_of passes sequences)
unfolding weight_of
weight-counted passes Has decides [] = refl
weight-counted passes Has decides (s ∷ sequences) = elim (cases_Bool (passes s.items)) [
  | inl does ↦ inl ((decides s.items).0 does, (weight_of passes sequences, cond-true (passes s.items) (s.weight + weight_of passes sequences) (weight_of passes sequences) does, weight-counted passes Has decides sequences))
  | inr not ↦ inr (
    (λ has. false≢true (sym not ∙ (decides s.items).1 has)),
    subst (Counts Has sequences) (sym (cond-false (passes s.items) (s.weight + weight_of passes sequences) (weight_of passes sequences) not)) (weight-counted passes Has decides sequences),
  )
]

pub weight-some : (passes : List Item → Bool) (sequences : List (Sequence Item)) → 1 ≤ weight_of passes sequences → (items : List Item) × (passes items ≡ true)
unfolding weight_of
weight-some passes [] some = absurd (omega (arith, some))
weight-some passes (s ∷ sequences) some = elim (cases_Bool (passes s.items)) [
  | inl does ↦ (s.items, does)
  | inr not ↦ weight-some passes sequences (subst (λ n. 1 ≤ n) (cond-false (passes s.items) (s.weight + weight_of passes sequences) (weight_of passes sequences) not) some)
]

module _ (problem : Problem) (whole : IsWhole problem) where
  -- Alive labels

  growing : (pivot : ℕ) (prefix : List Item) (ranks : List ℕ) → AreRanked problem.ranking.order prefix ranks
      → Counts (HasPatternBehind (data_of problem) (IsWithinPivot problem.ranking.order pivot) prefix) problem.sequences (weight_of (grows problem pivot ranks) problem.sequences)
  growing pivot prefix ranks ranked = weight-counted (grows problem pivot ranks) (HasPatternBehind (data_of problem) (IsWithinPivot problem.ranking.order pivot) prefix) decides problem.sequences
    where
      decides : (items : List Item) → Decides (grows problem pivot ranks items) (HasPatternBehind (data_of problem) (IsWithinPivot problem.ranking.order pivot) prefix items)
      decides items = (
        (λ does.
            let (other, is, has) = grows-forth problem whole pivot ranks items does in
            subst (λ l. HasPatternBehind (data_of problem) (IsWithinPivot problem.ranking.order pivot) l items) (ranked-same problem.ranking.order other prefix ranks is ranked) has),
        (λ has. grows-back problem whole pivot prefix ranks items ranked has),
      )

  pub alive-Decides : (pivot : ℕ) (ranks : List ℕ) → Decides (is_alive problem pivot ranks) (IsAliveLabel (data_of problem) problem.ranking.order pivot ranks)
  unfolding is_alive
  alive-Decides pivot ranks = (
    (λ does.
        let enough : problem.threshold ≤ weight_of (grows problem pivot ranks) problem.sequences = leb-true problem.threshold (weight_of (grows problem pivot ranks) problem.sequences) does in
        let (items, passes) = weight-some (grows problem pivot ranks) problem.sequences (omega (arith, whole.least, enough)) in
        let (prefix, ranked, has) = grows-forth problem whole pivot ranks items passes in
        record {
          prefix = prefix;
          ranked = ranked;
          alive = (IsAlive-counted (data_of problem) (IsWithinPivot problem.ranking.order pivot) prefix (weight_of (grows problem pivot ranks) problem.sequences) (growing pivot prefix ranks ranked)).1 enough;
        }),
    (λ is. le-leb problem.threshold (weight_of (grows problem pivot ranks) problem.sequences)
        ((IsAlive-counted (data_of problem) (IsWithinPivot problem.ranking.order pivot) is.prefix (weight_of (grows problem pivot ranks) problem.sequences) (growing pivot is.prefix ranks is.ranked)).0 is.alive)),
  )

  -- Roots, kids and rows

  roots_are : (pivots : List ℕ) → AreRootsOf (data_of problem) problem.ranking.order pivots (roots_by problem pivots)
  unfolding roots_by
  roots_are [] = refl
  roots_are (pivot ∷ pivots) = elim (cases_Bool (is_alive problem pivot [])) [
    | inl does ↦ inl ((alive-Decides pivot []).0 does, (roots_by problem pivots, cond-true (is_alive problem pivot []) (label_of pivot [] ∷ roots_by problem pivots) (roots_by problem pivots) does, roots_are pivots))
    | inr not ↦ inr (
      (λ alive. false≢true (sym not ∙ (alive-Decides pivot []).1 alive)),
      subst (AreRootsOf (data_of problem) problem.ranking.order pivots) (sym (cond-false (is_alive problem pivot []) (label_of pivot [] ∷ roots_by problem pivots) (roots_by problem pivots) not)) (roots_are pivots),
    )
  ]

  kids_are : (pivot : ℕ) (ranks : List ℕ) → AreKids (data_of problem) problem.ranking.order pivot ranks (kids_by problem (label_of pivot ranks))
  unfolding kids_by
  kids_are pivot ranks =
      let lives : ℕ → Bool = λ rank. is_alive problem pivot (ranks ++ rank ∷ []) in record {
        next = filter lives (all_ranks problem);
        rising = AllPairs-filter (λ low high. low < high) lives (all_ranks problem) (range-rises (length problem.ranking.order));
        exact = λ rank. (
          (λ held. (alive-Decides pivot (ranks ++ rank ∷ [])).0 (Contains-filter lives (all_ranks problem) rank held).1),
          (λ alive.
              let bounds = ranked-bounds problem.ranking.order alive.prefix (ranks ++ rank ∷ []) alive.ranked rank (Contains-push ranks rank) in
              filter-Contains lives (all_ranks problem) rank (range-back (length problem.ranking.order) rank bounds.0 bounds.1) ((alive-Decides pivot (ranks ++ rank ∷ [])).1 alive)),
        );
        longer = refl;
      }

  made : (pattern : List Item) (ranks : List ℕ) → AreRanked problem.ranking.order pattern ranks
      → Counts (λ items. IsPatternOf problem.hierarchy.links (tree_of problem.transducer.expression) items pattern) problem.sequences (support_of problem ranks)
  made pattern ranks ranked = weight-counted (generates problem ranks) (λ items. IsPatternOf problem.hierarchy.links (tree_of problem.transducer.expression) items pattern) decides problem.sequences
    where
      decides : (items : List Item) → Decides (generates problem ranks items) (IsPatternOf problem.hierarchy.links (tree_of problem.transducer.expression) items pattern)
      decides items = (
        (λ does.
            let (other, is, has) = generates-forth problem whole ranks items does in
            subst (IsPatternOf problem.hierarchy.links (tree_of problem.transducer.expression) items) (ranked-same problem.ranking.order other pattern ranks is ranked) has),
        (λ has. generates-back problem whole pattern ranks items ranked has),
      )

  -- the row that is computed for ranks
  abbrev row_with : List ℕ → Row
  row_with ranks = record {
    pattern = map (item_of_rank problem.ranking.order) ranks;
    support = support_of problem ranks;
  }

  abbrev passes : ℕ → List ℕ → Bool
  passes pivot ranks = are_within pivot ranks && leb problem.threshold (support_of problem ranks)

  row_forth : (pivot : ℕ) (ranks : List ℕ) → passes pivot ranks ≡ true → IsRowAt (data_of problem) problem.ranking.order pivot ranks (row_with ranks)
  row_forth pivot ranks does =
      let both = and_parts (are_within pivot ranks) (leb problem.threshold (support_of problem ranks)) does in
      let enough : problem.threshold ≤ support_of problem ranks = leb-true problem.threshold (support_of problem ranks) both.1 in
      let (items, has) = weight-some (generates problem ranks) problem.sequences (omega (arith, whole.least, enough)) in
      let (pattern, is, generated) = generates-forth problem whole ranks items has in
      let same : pattern ≡ map (item_of_rank problem.ranking.order) ranks = sym (ranked-items problem.ranking.order pattern ranks is) in
      let ranked : AreRanked problem.ranking.order (map (item_of_rank problem.ranking.order) ranks) ranks = subst (λ l. AreRanked problem.ranking.order l ranks) same is in
      let here : IsPatternOf problem.hierarchy.links (tree_of problem.transducer.expression) items (map (item_of_rank problem.ranking.order) ranks) =
      subst (IsPatternOf problem.hierarchy.links (tree_of problem.transducer.expression) items) same generated in
      record {
        ranked = ranked;
        within = (within-Decides problem.ranking.order whole.ranks.once pivot (map (item_of_rank problem.ranking.order) ranks) ranks ranked).0 both.0;
        frequent = record { not_empty = here.0; exact = made (map (item_of_rank problem.ranking.order) ranks) ranks ranked; enough = enough };
      }

  row_back : (pivot : ℕ) (ranks : List ℕ) (row : Row) → IsRowAt (data_of problem) problem.ranking.order pivot ranks row → passes pivot ranks ≡ true
  row_back pivot ranks row is =
      let same : row.support ≡ support_of problem ranks =
      Counts-unique (λ items. IsPatternOf problem.hierarchy.links (tree_of problem.transducer.expression) items row.pattern) problem.sequences row.support (support_of problem ranks)
      is.frequent.exact (made row.pattern ranks is.ranked) in
      let enough : problem.threshold ≤ row.support = is.frequent.enough in
      and_from (are_within pivot ranks) (leb problem.threshold (support_of problem ranks))
      ((within-Decides problem.ranking.order whole.ranks.once pivot row.pattern ranks is.ranked).1 is.within)
      (le-leb problem.threshold (support_of problem ranks) (omega (arith, enough, same)))

  row_is : (pivot : ℕ) (ranks : List ℕ) → IsRowOf (data_of problem) problem.ranking.order pivot ranks (row_by problem (label_of pivot ranks))
  unfolding row_by
  row_is pivot ranks = elim (cases_Bool (passes pivot ranks)) [
    | inl does ↦ subst (IsRowOf (data_of problem) problem.ranking.order pivot ranks) (sym (cond-true (passes pivot ranks) (Some (row_with ranks)) None does)) (row_forth pivot ranks does)
    | inr not ↦ subst (IsRowOf (data_of problem) problem.ranking.order pivot ranks) (sym (cond-false (passes pivot ranks) (Some (row_with ranks)) None not))
        (λ row is. false≢true (sym not ∙ row_back pivot ranks row is))
  ]

  -- THE COMPUTED TREE is the search tree
  pub search_tree-is : (pivots : List ℕ) → IsSearchTree (data_of problem) problem.ranking.order pivots (search_tree problem pivots)
  unfolding kids_by row_by
  search_tree-is pivots = record {
    roots = roots_are pivots;
    kids = kids_are;
    row = row_is;
    no_kids = refl;
    no_row = refl;
  }
