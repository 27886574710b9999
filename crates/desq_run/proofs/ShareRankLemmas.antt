-- The search by the pivots of a share, by ranks and by items.
use Rattle.std.proofs.Common.{◌≡◌, ◌↔◌, ℕ, suc, ◌-◌, ◌≤◌, ◌<◌, Some, List, [], ◌∷◌, length, get_or, refl, sym, ap, ◌∙◌, subst, arith}
use Rattle.std.specs.List.{All, AllByRecursion, AllPairs, Contains, slice_get}
use Rattle.std.proofs.lemmas.Option.{slice_get-get_or}
use Rattle.mine_model.specs.declared.item.Item.{Item}
use Rattle.mine_model.specs.declared.row.Row.{Row}
use Rattle.mine_model.specs.declared.mined.Work.{Work}
use Rattle.mine_model.specs.Hierarchy.{Link}
use Rattle.mine_model.specs.Answer.{Data, IsFrequent}
use Rattle.mine_model.specs.Ranks.{Ranking, HasRank, AreRanks, AreTiesByName}
use Rattle.mine_model.specs.Pivots.{IsRankedUpTo, IsWithin, IsWithinPivot, label_of, IsAliveLabel}
use Rattle.mine_model.specs.PartitionWork.{IsNamedBefore}
use Rattle.mine_model.proofs.ListLemmas.{AllByRecursion-weaker}
use Rattle.mine_model.proofs.NumberingLemmas.{map-none}
use Rattle.mine_model.proofs.NumberLemmas.{IsNumberOf-by}
use Rattle.mine_model.proofs.RankedLemmas.{item_rank, within-top}
use Rattle.mine_model.proofs.AliveLemmas.{IsAlive-frequent, IsAlive-shorter}
use Rattle.search_tree.proofs.SearchTreeLemmas.{IsAliveLabel-shorter}
use Rattle.mining_job.specs.Problems.{Problem, data_of, IsWhole}
use Rattle.search_engine.specs.Partition.{IsPartsWork}
use Rattle.command_line.specs.declared.share.Share.{Share}
use Rattle.split_merge.specs.Shares.{IsInShare, IsRankList, HasPlace, IsRankedTo, IsPivot}
use Rattle.desq_run.specs.Parts.{HasItem, IsOfShare, IsShareWork}
use Rattle.desq_run.specs.Inputs.{AreFound}
use Rattle.search_tree.proofs.PartitionRankLemmas.{order-within, before, label-ranked, label-forth, label-back, one_top, one_list, item_at, items_of, IsItemLabel}
use Rattle.pivot_partition.specs.Pivots.{HasPivotIn}

to_place : (order : List Item) (v : Item) (rank : ℕ) → HasRank order v rank → HasPlace order v rank
to_place order v rank has = (has.least, has.place)

to_rank : (order : List Item) (v : Item) (rank : ℕ) → HasPlace order v rank → HasRank order v rank
to_rank order v rank has = record { least = has.0; place = has.1 }

module _ (names : List (List ℕ)) (d : Data Item) (ranking : Ranking) (ranks : AreRanks d.links d.sequences d.threshold ranking)
    (ties : AreTiesByName names ranking) (within : (w : Item) → Contains ranking.order w → w.0 < length ranking.frequencies)
    (least : 1 ≤ d.threshold) (share : Share) where
  rank_at : (i : ℕ) (e : Item) → i < length ranking.order → HasRank ranking.order (get_or ranking.order i e) (suc i)
  rank_at i e inside =
      let back : suc i - 1 ≡ i = omega arith in
      record { least = omega arith; place = ap (λ n. slice_get ranking.order n) back ∙ slice_get-get_or ranking.order i e inside }

  -- the ranks are a list in the order of names
  pub rank-list : IsRankList (IsNamedBefore names) d ranking.order
  rank-list = record {
    frequent = ranks.frequent;
    falling = λ i j e less inside.
        before names d ranking ranks ties within (get_or ranking.order i e) (get_or ranking.order j e) (suc i) (suc j)
        (rank_at i e (omega (arith, less, inside))) (rank_at j e inside) (omega (arith, less));
  }

  tops-forth : (top : ℕ) (items : List Item) → AllByRecursion (IsRankedUpTo ranking.order top) items → AllByRecursion (IsRankedTo ranking.order top) items
  tops-forth top = AllByRecursion-weaker (IsRankedUpTo ranking.order top) (IsRankedTo ranking.order top)
      (λ v (rank, has, most). (rank, to_place ranking.order v rank has, most))

  tops-back : (top : ℕ) (items : List Item) → AllByRecursion (IsRankedTo ranking.order top) items → AllByRecursion (IsRankedUpTo ranking.order top) items
  tops-back top = AllByRecursion-weaker (IsRankedTo ranking.order top) (IsRankedUpTo ranking.order top)
      (λ v (rank, has, most). (rank, to_rank ranking.order v rank has, most))

  pivot-forth : (top : ℕ) (items : List Item) → IsWithin ranking.order top (Some top) items → IsPivot ranking.order items top
  pivot-forth top items is =
      let (v, held, has) = is.needed in
      record { item = v; held = held; rank = to_place ranking.order v top has; greatest = tops-forth top items is.ranked }

  pivot-back : (top : ℕ) (items : List Item) → IsPivot ranking.order items top → IsWithin ranking.order top (Some top) items
  pivot-back top items is = record {
    ranked = tops-back top items is.greatest;
    needed = (is.item, is.held, to_rank ranking.order is.item top is.rank);
  }

  -- of all alive pivots the search has those of the share
  abbrev ArePivotsOfShare : List ℕ → Type 0
  ArePivotsOfShare pivots = (pivot : ℕ) → Contains pivots pivot
      ↔ (((1 ≤ pivot) × IsAliveLabel d ranking.order pivot []) × IsInShare share.index share.of pivot)

  module _ (pivots : List ℕ) (exact : ArePivotsOfShare pivots) where
    -- a frequent pattern is of the share exactly where its pivot is one of these
    pub share-pattern : (row : Row) → IsFrequent d row.pattern row.support
        → HasPivotIn ranking.order pivots row.pattern ↔ IsOfShare share ranking.order row.pattern
    share-pattern row frequent = (
      (λ (pivot, inside, is).
          let (alive, in_share) = (exact pivot).0 inside in
          (pivot, pivot-forth pivot row.pattern ((within-top ranking.order pivot alive.0 row.pattern).0 is), in_share)),
      (λ (pivot, here, in_share).
          let bound : IsWithinPivot ranking.order pivot row.pattern = (within-top ranking.order pivot here.rank.0 row.pattern).1 (pivot-back pivot row.pattern here) in
          let alive : IsAliveLabel d ranking.order pivot [] = record {
            prefix = [];
            ranked = tt;
            alive = IsAlive-shorter d (IsWithinPivot ranking.order pivot) [] row.pattern
                (IsAlive-frequent d (IsWithinPivot ranking.order pivot) row.pattern row.support frequent bound);
          } in
          (pivot, (exact pivot).1 ((here.rank.0, alive), in_share), bound)),
    )

    -- THE ROWS of the search are the frequent patterns of the share
    pub share-rows : (rows : List Row)
        → ((row : Row) → Contains rows row ↔ (IsFrequent d row.pattern row.support × HasPivotIn ranking.order pivots row.pattern))
        → AreFound (IsNamedBefore names) (Some share) d rows
    share-rows rows found = (
      ranking.order,
      rank-list,
      (λ row. (
        (λ held. let (frequent, among) = (found row).0 held in (frequent, (share-pattern row frequent).0 among)),
        (λ is. (found row).1 (is.0, (share-pattern row is.0).1 is.1)),
      )),
    )

    abbrev HasLabel : List ℕ → Type 0
    HasLabel label = (top : ℕ) × (list : List ℕ) × Contains pivots top × (label ≡ label_of top list) × IsAliveLabel d ranking.order top list

    abbrev Alive : Item × List Item → Type 0
    Alive = IsItemLabel names d ranking ranks ties within least

    abbrev at : ℕ → Item
    at = item_at names d ranking ranks ties within least

    top_in : (top : ℕ) (list : List ℕ) → Contains pivots top → IsAliveLabel d ranking.order top list → HasItem share ranking.order (at top)
    top_in top list inside alive =
        let (some, in_share) = (exact top).0 inside in
        (top, to_place ranking.order (at top) top (label-ranked names d ranking ranks ties within least top list (some.0, alive)).0, in_share)

    -- the pivot of an alive label of items is one of these, where the item is one of the share
    top_back : (top : ℕ) (list : List ℕ) → 1 ≤ top → IsAliveLabel d ranking.order top list → HasItem share ranking.order (at top) → Contains pivots top
    top_back top list some alive (rank, has, in_share) =
        let is = label-ranked names d ranking ranks ties within least top list (some, alive) in
        let same : rank ≡ top = item_rank ranking.order ranks.once (at top) rank top (to_rank ranking.order (at top) rank has) is.0 in
        (exact top).1 ((some, IsAliveLabel-shorter d ranking.order top [] list alive), subst (IsInShare share.index share.of) same in_share)

    -- THE WORK of the search is that of the share
    pub share-items : AllPairs (λ low high. low < high) pivots → (work : Work) → IsPartsWork d ranking.order pivots work
        → IsShareWork (IsNamedBefore names) d share work
    share-items rising work is = record {
      order = ranking.order;
      list = rank-list;
      nodes = IsNumberOf-by HasLabel (λ label. HasItem share ranking.order label.0 × Alive label)
          (items_of names d ranking ranks ties within least) work.nodes
          (λ x y (top, list, some, is_x, alive) (other, others, also, is_y, alive_other) same.
          let first_is : (1 ≤ top) × IsAliveLabel d ranking.order top list = (((exact top).0 some).0.0, alive) in
          let other_is : (1 ≤ other) × IsAliveLabel d ranking.order other others = (((exact other).0 also).0.0, alive_other) in
          let both : items_of names d ranking ranks ties within least (label_of top list) ≡ items_of names d ranking ranks ties within least (label_of other others)
          = sym (ap (items_of names d ranking ranks ties within least) is_x) ∙ same ∙ ap (items_of names d ranking ranks ties within least) is_y in
          let first : top ≡ other = one_top names d ranking ranks ties within least top other list others first_is other_is (ap (λ l. l.0) both) in
          let rest : list ≡ others = one_list names d ranking ranks ties within least top other list others first_is other_is (ap (λ l. l.1) both) in
          is_x ∙ (λ i. first i ∷ rest i) ∙ sym is_y)
          (λ x (top, list, some, is_x, alive).
          subst (λ l. HasItem share ranking.order (items_of names d ranking ranks ties within least l).0 × Alive (items_of names d ranking ranks ties within least l)) (sym is_x)
          (top_in top list some alive, label-forth names d ranking ranks ties within least top list (((exact top).0 some).0.0, alive)))
          (λ label (item, alive).
          let (top, list, first, rest, found) = label-back names d ranking ranks ties within least label.0 label.1 alive in (
            label_of top list,
            (λ i. (first i, rest i)),
            (top, list, top_back top list found.0 found.1 (subst (HasItem share ranking.order) first item), refl, found.1),
          ))
          (record { things = is.labels; once = is.once; exact = is.alive; counted = is.nodes });
      parts = IsNumberOf-by (λ top. Contains pivots top) (λ pivot. HasItem share ranking.order pivot × Alive (pivot, [])) at work.parts
          (λ x y here there same.
          one_top names d ranking ranks ties within least x y [] [] (((exact x).0 here).0) (((exact y).0 there).0) same)
          (λ top inside.
          let some = ((exact top).0 inside).0 in
          (top_in top [] inside some.1, label-forth names d ranking ranks ties within least top [] some))
          (λ pivot (item, alive).
          let (top, list, first, rest, found) = label-back names d ranking ranks ties within least pivot [] alive in
          let none : list ≡ [] = map-none at list (sym rest) in
          (top, first, top_back top [] found.0 (subst (IsAliveLabel d ranking.order top) none found.1) (subst (HasItem share ranking.order) first item)))
          (record {
            things = pivots;
            once = λ i j e less inside same. (let rises = rising i j e less inside in omega (arith, rises, same));
            exact = λ pivot. ((λ held. held), (λ held. held));
            counted = is.parts;
          });
      candidates = is.candidates;
    }

-- the same of a problem whose links are between its items
module _ (problem : Problem) (whole : IsWhole problem)
    (ends : All (λ (link : Link Item). (link.child.0 < problem.hierarchy.items) × (link.parent.0 < problem.hierarchy.items)) problem.hierarchy.links)
    (names : List (List ℕ)) (ties : AreTiesByName names problem.ranking) (share : Share) (pivots : List ℕ)
    (exact : (pivot : ℕ) → Contains pivots pivot
    ↔ (((1 ≤ pivot) × IsAliveLabel (data_of problem) problem.ranking.order pivot []) × IsInShare share.index share.of pivot)) where
  in_list : (w : Item) → Contains problem.ranking.order w → w.0 < length problem.ranking.frequencies
  in_list = order-within (data_of problem) problem.ranking whole.ranks whole.least problem.hierarchy.items ends whole.items whole.ranked

  pub problem-share-rows : (rows : List Row)
      → ((row : Row) → Contains rows row ↔ (IsFrequent (data_of problem) row.pattern row.support × HasPivotIn problem.ranking.order pivots row.pattern))
      → AreFound (IsNamedBefore names) (Some share) (data_of problem) rows
  problem-share-rows = share-rows names (data_of problem) problem.ranking whole.ranks ties in_list whole.least share pivots exact

  pub problem-share-work : AllPairs (λ low high. low < high) pivots → (work : Work) → IsPartsWork (data_of problem) problem.ranking.order pivots work
      → IsShareWork (IsNamedBefore names) (data_of problem) share work
  problem-share-work = share-items names (data_of problem) problem.ranking whole.ranks ties in_list whole.least share pivots exact

-- those of a list that have one property are those that have another, where the list has exactly those
pub exact_both : (own all : List ℕ) (Is In : ℕ → Type 0) → ((p : ℕ) → Contains own p ↔ (Contains all p × In p)) → ((p : ℕ) → Contains all p ↔ Is p)
    → (p : ℕ) → Contains own p ↔ (Is p × In p)
exact_both own all Is In some exact p = (
  (λ held. let both = (some p).0 held in ((exact p).0 both.0, both.1)),
  (λ both. (some p).1 ((exact p).1 both.0, both.1)),
)
