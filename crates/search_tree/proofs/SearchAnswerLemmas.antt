-- The rows of the search tree without pivots are the frequent patterns, and its labels are the counted nodes.
use Rattle.std.proofs.Common.{◌≡◌, ◌≢◌, ◌⊎◌, ℕ, ◌-◌, ◌≤◌, inl, inr, Some, List, [], ◌∷◌, map, length, refl, sym, ap, ◌∙◌, subst, arith}
use Rattle.std.specs.List.{AllByRecursion, AllPairs, Contains, filter_map}
use Rattle.std.proofs.lemmas.List.{length-map}
use Rattle.std.proofs.lemmas.Option.{get_or_from_slice_get}
use Rattle.mine_model.specs.declared.item.Item.{Item}
use Rattle.mine_model.specs.declared.row.Row.{Row}
use Rattle.mine_model.specs.Support.{HasFrequency}
use Rattle.mine_model.specs.Answer.{Data, IsFrequent}
use Rattle.mine_model.specs.Candidates.{IsFrequentItem}
use Rattle.mine_model.specs.Ranks.{Ranking, AreRanked, AreRanks}
use Rattle.mine_model.specs.Growth.{IsAlive, AreFrequentItems, IsSearchWork}
use Rattle.mine_model.specs.Numbered.{AreFrequent}
use Rattle.search_tree.specs.Cover.{Covers}
use Rattle.mine_model.specs.Pivots.{item_of_rank, IsRankedUpTo, IsWithinPivot, label_of, IsAliveLabel}
use Rattle.search_tree.specs.SearchTree.{IsRowAt, IsRowOf, AreRootsOf, SearchTree, IsSearchTree}
use Rattle.mine_model.proofs.ListLemmas.{Contains-cases, Contains-none, Contains-first, Contains-by, Contains-from, AllByRecursion-weaker, front_of_both, apart_within, filter_map-forth, filter_map-back, filter_map-pairs}
use Rattle.mine_model.proofs.RankLemmas.{HasRank-held, HasRank-most}
use Rattle.mine_model.proofs.RankedLemmas.{ranked-all, ranked-same, same_ranks}
use Rattle.mine_model.proofs.FrequencyLemmas.{frequent-items}
use Rattle.mine_model.proofs.AliveLemmas.{IsAlive-weaker, IsAlive-some, IsAlive-frequent}
use Rattle.mine_model.proofs.OnceLemmas.{once-apart}
use Rattle.search_tree.proofs.SearchTreeLemmas.{IsRowOf-same, search-members, search-once}

-- Items by their ranks

-- the prefix of a label
abbrev pub prefix_of : List Item → List ℕ → List Item
prefix_of order [] = []
prefix_of order (pivot ∷ ranks) = map (item_of_rank order) ranks

-- the ranks have their items
pub ranked-items : (order items : List Item) (ranks : List ℕ) → AreRanked order items ranks → map (item_of_rank order) ranks ≡ items
ranked-items order [] [] ranked = refl
ranked-items order [] (r ∷ ranks) ranked = absurd ranked
ranked-items order (v ∷ items) [] ranked = absurd ranked
ranked-items order (v ∷ items) (r ∷ ranks) ranked =
    let first : item_of_rank order r ≡ v = get_or_from_slice_get order (r - 1) v (record { 0 = 0 }) ranked.0.place in
    λ i. first i ∷ ranked-items order items ranks ranked.1 i

-- items with ranks are within the bound that is no pivot's
pub ranked-within : (order items : List Item) (ranks : List ℕ) → AreRanked order items ranks → IsWithinPivot order 0 items
ranked-within order items ranks ranked = record { ranked = up items ranks ranked; needed = tt }
  where
    up : (items : List Item) (ranks : List ℕ) → AreRanked order items ranks → AllByRecursion (IsRankedUpTo order (length order)) items
    up [] ranks ranked = tt
    up (v ∷ items) [] ranked = absurd ranked
    up (v ∷ items) (r ∷ ranks) ranked = ((r, ranked.0, HasRank-most order v r ranked.0), up items ranks ranked.1)

none_alone : (pivot : ℕ) → Contains (0 ∷ []) pivot → pivot ≡ 0
none_alone pivot held = elim (Contains-cases 0 [] pivot held) [ inl is ↦ is | inr none ↦ absurd (Contains-none pivot none) ]

one_apart : AllPairs (λ (p : ℕ) q. p ≢ q) (0 ∷ [])
one_apart i j e less inside = absurd (omega (arith, less, inside))

module _ (d : Data Item) (ranking : Ranking) (are : AreRanks d.links d.sequences d.threshold ranking) where
  -- without pivots the bound is that all items are frequent
  pub within-frequent : (items : List Item) → IsWithinPivot ranking.order 0 items → AreFrequentItems d items
  within-frequent items within =
      AllByRecursion-weaker (IsRankedUpTo ranking.order (length ranking.order)) (IsFrequentItem d.links d.sequences d.threshold)
      (λ v (rank, has, most). (are.frequent v).0 (HasRank-held ranking.order v rank has)) items within.ranked

  pub frequent-ranks : (items : List Item) → AreFrequentItems d items → (ranks : List ℕ) × AreRanked ranking.order items ranks
  frequent-ranks items all =
      ranked-all ranking.order items
      (AllByRecursion-weaker (IsFrequentItem d.links d.sequences d.threshold) (Contains ranking.order) (λ v is. (are.frequent v).1 is) items all)

  pub frequent-within : (items : List Item) → AreFrequentItems d items → IsWithinPivot ranking.order 0 items
  frequent-within items all = let (ranks, ranked) = frequent-ranks items all in ranked-within ranking.order items ranks ranked

  -- a prefix is alive by its label where it is alive among the patterns of frequent items
  pub label-prefix : (ranks : List ℕ) (alive : IsAliveLabel d ranking.order 0 ranks) → IsAlive d (AreFrequentItems d) alive.prefix
  label-prefix ranks alive = IsAlive-weaker d (IsWithinPivot ranking.order 0) (AreFrequentItems d) within-frequent alive.prefix alive.alive

  pub prefix-label : (prefix : List Item) (ranks : List ℕ) → AreRanked ranking.order prefix ranks → IsAlive d (AreFrequentItems d) prefix → IsAliveLabel d ranking.order 0 ranks
  prefix-label prefix ranks ranked alive = record {
    prefix = prefix;
    ranked = ranked;
    alive = IsAlive-weaker d (AreFrequentItems d) (IsWithinPivot ranking.order 0) frequent-within prefix alive;
  }

  -- an alive prefix has ranks
  pub alive-ranks : 1 ≤ d.threshold → (prefix : List Item) → IsAlive d (AreFrequentItems d) prefix → (ranks : List ℕ) × AreRanked ranking.order prefix ranks
  alive-ranks least prefix alive =
      let (s, held, (more, pattern, within)) = IsAlive-some d (AreFrequentItems d) prefix least alive in
      frequent-ranks prefix (front_of_both (IsFrequentItem d.links d.sequences d.threshold) prefix more within)

  module _ (tree : SearchTree) (is : IsSearchTree d ranking.order (0 ∷ []) tree) (labels : List (List ℕ)) (covers : Covers tree.roots tree.kids labels) where
    -- a label of the cover has ranks alone
    node_of : (label : List ℕ) → Contains labels label → (ranks : List ℕ) × (label ≡ label_of 0 ranks) × IsAliveLabel d ranking.order 0 ranks
    node_of label held =
        let (pivot, ranks, inside, same, alive) = (search-members d ranking.order (0 ∷ []) tree is labels covers label).0 held in
        let zero_is : pivot ≡ 0 = none_alone pivot inside in
        (ranks, same ∙ ap (λ p. label_of p ranks) zero_is, subst (λ p. IsAliveLabel d ranking.order p ranks) zero_is alive)

    of_node : (ranks : List ℕ) → IsAliveLabel d ranking.order 0 ranks → Contains labels (label_of 0 ranks)
    of_node ranks alive =
        (search-members d ranking.order (0 ∷ []) tree is labels covers (label_of 0 ranks)).1 (0, ranks, Contains-first 0 [], refl, alive)

    apart : AllPairs (λ first second. first ≢ second) labels
    apart = once-apart labels (search-once d ranking.order (0 ∷ []) tree is one_apart labels covers)

    row_of : (label : List ℕ) (row : Row) → Contains labels label → tree.row label ≡ Some row
        → (ranks : List ℕ) × (label ≡ label_of 0 ranks) × IsRowAt d ranking.order 0 ranks row
    row_of label row held gives =
        let (ranks, same, alive) = node_of label held in
        (ranks, same, subst (IsRowOf d ranking.order 0 ranks) (ap tree.row (sym same) ∙ gives) (is.row 0 ranks))

    -- the label of a frequent pattern is among them, and has its row
    row_back : ((w : Item) → (m : ℕ) × HasFrequency d.links d.sequences w m) → (row : Row) → IsFrequent d row.pattern row.support
        → Contains (filter_map tree.row labels) row
    row_back known row frequent =
        let items = frequent-items d.links d.sequences known d.threshold d.expression row.pattern row.support frequent.exact frequent.enough in
        let (ranks, ranked) = frequent-ranks row.pattern items in
        let alive = prefix-label row.pattern ranks ranked (IsAlive-frequent d (AreFrequentItems d) row.pattern row.support frequent items) in
        let at : IsRowAt d ranking.order 0 ranks row = record { ranked = ranked; within = frequent-within row.pattern items; frequent = frequent } in
        filter_map-back tree.row labels (label_of 0 ranks) row (of_node ranks alive)
        (IsRowOf-same d ranking.order 0 ranks (tree.row (label_of 0 ranks)) (Some row) (is.row 0 ranks) at)

    -- THE ROWS of the search tree are the frequent patterns
    pub search-rows : ((w : Item) → (m : ℕ) × HasFrequency d.links d.sequences w m) → AreFrequent d (filter_map tree.row labels)
    search-rows known = record {
      once = filter_map-pairs (λ first second. first ≢ second) (λ (first : Row) (second : Row). first.pattern ≢ second.pattern) tree.row labels
          (λ first second row other here there gives also differ same.
          let (ranks, is_first, at) = row_of first row here gives in
          let (others, is_second, at2) = row_of second other there also in
          let one : ranks ≡ others = same_ranks ranking.order are.once row.pattern ranks others at.ranked
          (subst (λ p. AreRanked ranking.order p others) (sym same) at2.ranked) in
          differ (is_first ∙ ap (label_of 0) one ∙ sym is_second))
          apart;
      frequent = λ row. (
        (λ held.
            let (label, inside, gives) = filter_map-forth tree.row labels row held in
            let (ranks, same, at) = row_of label row inside gives in at.frequent),
        row_back known row,
      );
    }

    prefix_is : (label : List ℕ) (ranks : List ℕ) → label ≡ label_of 0 ranks → (items : List Item) → AreRanked ranking.order items ranks → prefix_of ranking.order label ≡ items
    prefix_is label ranks same items ranked = ap (prefix_of ranking.order) same ∙ ranked-items ranking.order items ranks ranked

    roots_are : (roots : List (List ℕ)) → AreRootsOf d ranking.order (0 ∷ []) roots
        → ((length roots ≡ 1) × IsAlive d (AreFrequentItems d) []) ⊎ ((length roots ≡ 0) × (IsAlive d (AreFrequentItems d) [] → ⊥))
    roots_are roots (inl some) = inl (
      ap length (some.1.1 ∙ ap (λ l. label_of 0 [] ∷ l) some.1.2),
      subst (IsAlive d (AreFrequentItems d)) (ranked-same ranking.order some.0.prefix [] [] some.0.ranked tt) (label-prefix [] some.0),
    )
    roots_are roots (inr none) = inr (ap length none.1, (λ alive. none.0 (prefix-label [] [] tt alive)))

    -- ITS NODES are the alive prefixes
    pub search-work : 1 ≤ d.threshold → IsSearchWork d (record { nodes = length labels; parts = length tree.roots; candidates = 0 })
    search-work least = record {
      nodes = record {
        things = map (prefix_of ranking.order) labels;
        once = apart_within (prefix_of ranking.order) labels
            (λ first second here there same.
            let (ranks, is_first, alive) = node_of first here in
            let (others, is_second, alive2) = node_of second there in
            let items : alive.prefix ≡ alive2.prefix = sym (prefix_is first ranks is_first alive.prefix alive.ranked) ∙ same ∙ prefix_is second others is_second alive2.prefix alive2.ranked in
            let one : ranks ≡ others = same_ranks ranking.order are.once alive2.prefix ranks others (subst (λ p. AreRanked ranking.order p ranks) items alive.ranked) alive2.ranked in
            is_first ∙ ap (label_of 0) one ∙ sym is_second)
            apart;
        exact = λ prefix. (
          (λ held.
              let (label, inside, same) = Contains-from (prefix_of ranking.order) labels prefix held in
              let (ranks, is_label, alive) = node_of label inside in
              subst (IsAlive d (AreFrequentItems d)) (sym (same ∙ prefix_is label ranks is_label alive.prefix alive.ranked)) (label-prefix ranks alive)),
          (λ alive.
              let (ranks, ranked) = alive-ranks least prefix alive in
              subst (Contains (map (prefix_of ranking.order) labels)) (prefix_is (label_of 0 ranks) ranks refl prefix ranked)
              (Contains-by (prefix_of ranking.order) labels (label_of 0 ranks) (of_node ranks (prefix-label prefix ranks ranked alive)))),
        );
        counted = sym (length-map labels (prefix_of ranking.order));
      };
      parts = roots_are tree.roots is.roots;
      candidates = refl;
    }
