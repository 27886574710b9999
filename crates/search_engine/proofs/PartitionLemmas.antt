-- The rows of the search by pivots are the frequent patterns, and its labels are the counted nodes.
use Rattle.std.proofs.Common.{◌≡◌, ◌≢◌, ◌⊎◌, ◌↔◌, ℕ, zero, suc, ◌-◌, ◌+◌, ◌≤◌, ◌<◌, inl, inr, Some, List, [], ◌∷◌, map, length, refl, sym, ap, ◌∙◌, subst, arith}
use Rattle.std.specs.List.{AllByRecursion, AllPairs, Contains, filter_map}
use Rattle.std.proofs.lemmas.Bool.{cases_lt}
use Rattle.mine_model.specs.declared.item.Item.{Item}
use Rattle.mine_model.specs.declared.row.Row.{Row}
use Rattle.mine_model.specs.Support.{HasFrequency}
use Rattle.mine_model.specs.Answer.{Data, IsFrequent}
use Rattle.mine_model.specs.Ranks.{Ranking, HasRank, AreRanked, AreRanks}
use Rattle.mine_model.specs.declared.mined.Work.{Work}
use Rattle.mine_model.specs.Numbered.{PatternsDiffer, AreFrequent}
use Rattle.search_tree.specs.Cover.{Covers}
use Rattle.mine_model.specs.Pivots.{IsRankedUpTo, HoldsRank, IsWithin, IsWithinPivot, label_of, IsAliveLabel}
use Rattle.search_tree.specs.SearchTree.{IsRowAt, IsRowOf, AreRootsOf, SearchTree, IsSearchTree}
use Rattle.mine_model.proofs.ListLemmas.{Contains-cases, Contains-none, Contains-first, Contains-other, AllByRecursion-contained, filter_map-forth, filter_map-back, filter_map-pairs}
use Rattle.mine_model.proofs.RankLemmas.{HasRank-held}
use Rattle.mine_model.proofs.RankedLemmas.{item_rank, same_ranks, ranked-bounds}
use Rattle.mine_model.proofs.FrequencyLemmas.{frequent-items}
use Rattle.mine_model.proofs.AliveLemmas.{IsAlive-frequent}
use Rattle.mine_model.proofs.OnceLemmas.{once-apart}
use Rattle.search_tree.proofs.PivotLemmas.{pivot-same, place_of}
use Rattle.search_tree.proofs.SearchAnswerLemmas.{frequent-ranks}
use Rattle.search_tree.proofs.SearchTreeLemmas.{IsAliveLabel-shorter, IsRowOf-same, search-members, search-once}
use Rattle.search_tree.specs.RankedPartition.{AreAlivePivots, IsRankedPartitionWork}
use Rattle.search_engine.specs.Partition.{IsPartsWork}
use Rattle.sequence_grids.proofs.KindLemmas.{once_by_rising}
use Rattle.pivot_partition.specs.Pivots.{HasPivotIn}

-- one root for each pivot
roots-long : (d : Data Item) (order : List Item) (some : List ℕ) (roots : List (List ℕ)) → AreRootsOf d order some roots
    → ((pivot : ℕ) → Contains some pivot → IsAliveLabel d order pivot []) → length roots ≡ length some
roots-long d order [] roots none each = ap length none
roots-long d order (pivot ∷ some) roots (inl (alive, (others, same, rest))) each =
    ap length same ∙ ap suc (roots-long d order some others rest (λ other held. each other (Contains-other pivot some other held)))
roots-long d order (pivot ∷ some) roots (inr (dead, rest)) each = absurd (dead (each pivot (Contains-first pivot some)))

-- The search by some pivots, each from 1 on, and rising

module _ (d : Data Item) (ranking : Ranking) (are : AreRanks d.links d.sequences d.threshold ranking) (pivots : List ℕ) (rising : AllPairs (λ low high. low < high) pivots)
    (each : (pivot : ℕ) → Contains pivots pivot → (1 ≤ pivot) × IsAliveLabel d ranking.order pivot [])
    (tree : SearchTree) (is : IsSearchTree d ranking.order pivots tree) (labels : List (List ℕ)) (covers : Covers tree.roots tree.kids labels) where
  apart : AllPairs (λ first second. first ≢ second) labels
  apart = once-apart labels (search-once d ranking.order pivots tree is (once_by_rising pivots rising) labels covers)

  row_of : (label : List ℕ) (row : Row) → Contains labels label → tree.row label ≡ Some row
      → (pivot : ℕ) × (ranks : List ℕ) × Contains pivots pivot × (label ≡ label_of pivot ranks) × IsRowAt d ranking.order pivot ranks row
  row_of label row held gives =
      let (pivot, ranks, inside, same, alive) = (search-members d ranking.order pivots tree is labels covers label).0 held in
      (pivot, ranks, inside, same, subst (IsRowOf d ranking.order pivot ranks) (ap tree.row (sym same) ∙ gives) (is.row pivot ranks))

  -- the rows have patterns of their own
  pub parts-once : PatternsDiffer (filter_map tree.row labels)
  parts-once =
      filter_map-pairs (λ first second. first ≢ second) (λ (first : Row) (second : Row). first.pattern ≢ second.pattern) tree.row labels
      (λ first second row other here there gives also differ same.
      let (pivot, ranks, inside, is_first, at) = row_of first row here gives in
      let (pivot2, others, inside2, is_second, at2) = row_of second other there also in
      let one : ranks ≡ others = same_ranks ranking.order are.once row.pattern ranks others at.ranked
      (subst (λ p. AreRanked ranking.order p others) (sym same) at2.ranked) in
      let top : pivot ≡ pivot2 = pivot-same ranking.order are.once pivot pivot2 (each pivot inside).0 (each pivot2 inside2).0 row.pattern at.within
      (subst (IsWithinPivot ranking.order pivot2) (sym same) at2.within) in
      differ (is_first ∙ (λ i. label_of (top i) (one i)) ∙ sym is_second))
      apart

  part-back : ((w : Item) → (m : ℕ) × HasFrequency d.links d.sequences w m) → (row : Row) → IsFrequent d row.pattern row.support → HasPivotIn ranking.order pivots row.pattern
      → Contains (filter_map tree.row labels) row
  part-back known row frequent (pivot, inside, within) =
      let items = frequent-items d.links d.sequences known d.threshold d.expression row.pattern row.support frequent.exact frequent.enough in
      let (ranks, ranked) = frequent-ranks d ranking are row.pattern items in
      let alive : IsAliveLabel d ranking.order pivot ranks = record {
        prefix = row.pattern;
        ranked = ranked;
        alive = IsAlive-frequent d (IsWithinPivot ranking.order pivot) row.pattern row.support frequent within;
      } in
      let at : IsRowAt d ranking.order pivot ranks row = record { ranked = ranked; within = within; frequent = frequent } in
      filter_map-back tree.row labels (label_of pivot ranks) row
      ((search-members d ranking.order pivots tree is labels covers (label_of pivot ranks)).1 (pivot, ranks, inside, refl, alive))
      (IsRowOf-same d ranking.order pivot ranks (tree.row (label_of pivot ranks)) (Some row) (is.row pivot ranks) at)

  -- THE ROWS are the frequent patterns of these pivots
  pub parts-rows : ((w : Item) → (m : ℕ) × HasFrequency d.links d.sequences w m) → (row : Row) → Contains (filter_map tree.row labels) row
      ↔ (IsFrequent d row.pattern row.support × HasPivotIn ranking.order pivots row.pattern)
  parts-rows known row = (
    (λ held.
        let (label, inside, gives) = filter_map-forth tree.row labels row held in
        let (pivot, ranks, among, same, at) = row_of label row inside gives in (at.frequent, (pivot, among, at.within))),
    (λ h. part-back known row h.0 h.1),
  )

  -- ITS NODES are the alive labels of the pivots
  pub parts-work : IsPartsWork d ranking.order pivots (record { nodes = length labels; parts = length tree.roots; candidates = 0 })
  parts-work = record {
    labels = labels;
    once = apart;
    alive = search-members d ranking.order pivots tree is labels covers;
    nodes = refl;
    parts = roots-long d ranking.order pivots tree.roots is.roots (λ pivot held. (each pivot held).1);
    candidates = refl;
  }

-- The search by all alive pivots

module _ (d : Data Item) (ranking : Ranking) (are : AreRanks d.links d.sequences d.threshold ranking) (pivots : List ℕ) (alive_are : AreAlivePivots d ranking.order pivots) where
  -- the rows of all alive pivots are the frequent patterns
  pub all-parts-rows : ((w : Item) → (m : ℕ) × HasFrequency d.links d.sequences w m) → (rows : List Row) → PatternsDiffer rows
      → ((row : Row) → Contains rows row ↔ (IsFrequent d row.pattern row.support × HasPivotIn ranking.order pivots row.pattern)) → AreFrequent d rows
  all-parts-rows known rows differ exact = record {
    once = differ;
    frequent = λ row. (
      (λ held. ((exact row).0 held).0),
      (λ frequent.
          let items = frequent-items d.links d.sequences known d.threshold d.expression row.pattern row.support frequent.exact frequent.enough in
          let (ranks, ranked) = frequent-ranks d ranking are row.pattern items in
          let (pivot, least, within) = place_of ranking.order row.pattern ranks frequent.not_empty ranked in
          let alive : IsAliveLabel d ranking.order pivot ranks = record {
            prefix = row.pattern;
            ranked = ranked;
            alive = IsAlive-frequent d (IsWithinPivot ranking.order pivot) row.pattern row.support frequent within;
          } in
          (exact row).1 (frequent, (pivot, (alive_are.exact pivot).1 (least, IsAliveLabel-shorter d ranking.order pivot [] ranks alive), within))),
    );
  }

  -- and their work is that of the search by pivots
  pub all-parts-work : (work : Work) → IsPartsWork d ranking.order pivots work → IsRankedPartitionWork d ranking.order work
  all-parts-work work is = record {
    labels = is.labels;
    once = is.once;
    alive = λ label. (
      (λ held.
          let (pivot, ranks, inside, same, alive) = (is.alive label).0 held in
          (pivot, ranks, ((alive_are.exact pivot).0 inside).0, same, alive)),
      (λ h.
          let (pivot, ranks, least, same, alive) = h in
          (is.alive label).1 (pivot, ranks, (alive_are.exact pivot).1 (least, IsAliveLabel-shorter d ranking.order pivot [] ranks alive), same, alive)),
    );
    nodes = is.nodes;
    pivots = pivots;
    are_alive = alive_are;
    parts = is.parts;
    candidates = is.candidates;
  }

  module _ (tree : SearchTree) (is : IsSearchTree d ranking.order pivots tree) (labels : List (List ℕ)) (covers : Covers tree.roots tree.kids labels) where
    each : (pivot : ℕ) → Contains pivots pivot → (1 ≤ pivot) × IsAliveLabel d ranking.order pivot []
    each pivot held = (alive_are.exact pivot).0 held

    pub partition-rows : ((w : Item) → (m : ℕ) × HasFrequency d.links d.sequences w m) → AreFrequent d (filter_map tree.row labels)
    partition-rows known =
        all-parts-rows known (filter_map tree.row labels) (parts-once d ranking are pivots alive_are.rising each tree is labels covers)
        (parts-rows d ranking are pivots alive_are.rising each tree is labels covers known)

    pub partition-work : IsRankedPartitionWork d ranking.order (record { nodes = length labels; parts = length tree.roots; candidates = 0 })
    partition-work =
        all-parts-work (record { nodes = length labels; parts = length tree.roots; candidates = 0 })
        (parts-work d ranking are pivots alive_are.rising each tree is labels covers)
