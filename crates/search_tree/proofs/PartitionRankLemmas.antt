-- The work of a search by pivots by ranks is that by items.
use Rattle.std.proofs.Common.{◌≡◌, ◌⊎◌, ◌↔◌, ℕ, suc, zero, ◌-◌, ◌≤◌, ◌<◌, inl, inr, Some, List, [], ◌∷◌, ◌++◌, map, length, get_or, refl, sym, ap, ◌∙◌, subst, arith}
use Rattle.std.specs.List.{All, AllByRecursion, AllPairs, Contains}
use Rattle.std.specs.Ordering.{ordering_reverse}
use Rattle.std.specs.declared.cmp.Ordering.TheVariants.{Less, Greater}
use Rattle.std.proofs.lemmas.Bool.{cases_lt}
use Rattle.std.proofs.lemmas.Cmp.{nat_list_cmp_total}
use Rattle.std.proofs.lemmas.Option.{slice_get_within, get_or_from_slice_get}
use Rattle.mine_model.specs.declared.item.Item.{Item}
use Rattle.mine_model.specs.declared.mined.Work.{Work}
use Rattle.mine_model.specs.Hierarchy.{Link}
use Rattle.mine_model.specs.Support.{HoldsUnder, HasFrequency}
use Rattle.mine_model.specs.Answer.{Data}
use Rattle.mine_model.specs.Candidates.{IsFrequentItem}
use Rattle.mine_model.specs.Names.{name_of}
use Rattle.mine_model.specs.Growth.{IsAlive, AreFrequentItems}
use Rattle.mine_model.specs.Ranks.{Ranking, HasRank, AreRanked, frequency_in, AreRanks, AreTiesByName}
use Rattle.mine_model.specs.Pivots.{item_of_rank, IsRankedUpTo, IsWithin, IsWithinPivot, label_of, IsAliveLabel}
use Rattle.mine_model.proofs.ListLemmas.{AllByRecursion-contained, AllByRecursion-weaker, front_of_both}
use Rattle.mine_model.proofs.SupportLemmas.{Counts-unique}
use Rattle.mine_model.proofs.FrequencyLemmas.{HasFrequency-within}
use Rattle.mine_model.proofs.NumberingLemmas.{map-none}
use Rattle.mine_model.proofs.RankLemmas.{HasRank-held}
use Rattle.mine_model.proofs.RankedLemmas.{ranked-first, ranked-same, ranked-all, item_rank, same_ranks, within-top}
use Rattle.mine_model.proofs.AliveLemmas.{IsAlive-weaker, IsAlive-some}
use Rattle.search_tree.proofs.SearchAnswerLemmas.{ranked-items, frequent-ranks}
use Rattle.search_tree.specs.RankedPartition.{IsRankedPartitionWork}
use Rattle.mine_model.specs.PartitionWork.{RanksBefore, IsPivotOf, IsPartitionWork, IsBytewiseBefore, IsNamedBefore}
use Rattle.mine_model.proofs.NumberLemmas.{IsNumberOf-by}

-- a ranked item has its frequency in the list, where that is as long as there are items
pub order-within : (d : Data Item) (ranking : Ranking) → AreRanks d.links d.sequences d.threshold ranking → 1 ≤ d.threshold
    → (size : ℕ) → All (λ link. (link.child.0 < size) × (link.parent.0 < size)) d.links
    → AllByRecursion (λ s. AllByRecursion (λ t. t.0 < size) s.items) d.sequences → length ranking.frequencies ≡ size
    → (w : Item) → Contains ranking.order w → w.0 < length ranking.frequencies
order-within d ranking ranks least size ends all whole w held =
    let is = (ranks.frequent w).0 held in
    let below : w.0 < size = HasFrequency-within d.links size ends d.sequences w is.frequency all is.exact (omega (arith, least, is.enough)) in
    omega (arith, below, whole)

bytewise_once : (name other : List ℕ) → IsBytewiseBefore name other → IsBytewiseBefore other name → ⊥
bytewise_once name other one back =
    let turned : Less ≡ Greater = sym one ∙ nat_list_cmp_total.antisymm name other ∙ ap ordering_reverse back in cc

module _ (names : List (List ℕ)) (d : Data Item) (ranking : Ranking) (ranks : AreRanks d.links d.sequences d.threshold ranking)
    (ties : AreTiesByName names ranking) (within : (w : Item) → Contains ranking.order w → w.0 < length ranking.frequencies) where
  abbrev pub Before : Item → Item → Type 0
  Before = RanksBefore (IsNamedBefore names) d

  abbrev pub Bound : Item → List Item → Type 0
  Bound = IsPivotOf (IsNamedBefore names) d

  abbrev pub Frequent : Item → Type 0
  Frequent = IsFrequentItem d.links d.sequences d.threshold

  pub at_rank : (v : Item) (rank : ℕ) (e : Item) → HasRank ranking.order v rank → get_or ranking.order (rank - 1) e ≡ v
  at_rank v rank e has = get_or_from_slice_get ranking.order (rank - 1) v e has.place

  in_order : (R : Item → Item → Type 0) → AllPairs R ranking.order → (v w : Item) (r s : ℕ)
      → HasRank ranking.order v r → HasRank ranking.order w s → r < s → R v w
  in_order R pairs v w r s has also less =
      subst (λ x. R x w) (at_rank v r v has) (subst (λ y. R (get_or ranking.order (r - 1) v) y) (at_rank w s v also)
      (pairs (r - 1) (s - 1) v (omega (arith, less, has.least)) (slice_get_within ranking.order (s - 1) w also.place)))

  frequency_of : (v : Item) (rank : ℕ) → HasRank ranking.order v rank → HasFrequency d.links d.sequences v (frequency_in ranking v)
  frequency_of v rank has = ranks.exact v (within v (HasRank-held ranking.order v rank has))

  -- the item of a lesser rank ranks before
  pub before : (v w : Item) (r s : ℕ) → HasRank ranking.order v r → HasRank ranking.order w s → r < s → Before v w
  before v w r s has also less = record {
    first = frequency_in ranking v;
    second = frequency_in ranking w;
    of_first = frequency_of v r has;
    of_second = frequency_of w s also;
    before = elim (cases_lt (frequency_in ranking w) (frequency_in ranking v)) [
      | inl more ↦ inl more
      | inr most ↦
          let falls = in_order (λ x y. frequency_in ranking y ≤ frequency_in ranking x) ranks.falling v w r s has also less in
          let same : frequency_in ranking v ≡ frequency_in ranking w = omega (arith, most, falls) in
          inr (same, in_order (λ x y. frequency_in ranking x ≡ frequency_in ranking y → IsNamedBefore names x y) ties v w r s has also less same)
    ];
  }

  not_both : (v w : Item) → Before v w → Before w v → ⊥
  not_both v w one other =
      let same_v = Counts-unique (HoldsUnder d.links v) d.sequences one.first other.second one.of_first other.of_second in
      let same_w = Counts-unique (HoldsUnder d.links w) d.sequences one.second other.first one.of_second other.of_first in
      elim one.before [
        | inl more ↦ elim other.before [ inl less ↦ omega (arith, more, less, same_v, same_w) | inr tie ↦ omega (arith, more, tie.0, same_v, same_w) ]
        | inr tie ↦ elim other.before [
          | inl less ↦ omega (arith, tie.0, less, same_v, same_w)
          | inr back ↦ bytewise_once (name_of names v) (name_of names w) tie.1 back.1
        ]
      ]

  pub rank_of : (v : Item) → Frequent v → (rank : ℕ) × HasRank ranking.order v rank
  rank_of v frequent =
      let (list, ranked) = ranked-all ranking.order (v ∷ []) ((ranks.frequent v).1 frequent, tt) in
      let (rank, _, _, has, _) = ranked-first ranking.order v [] list ranked in (rank, has)

  module _ (pivot : Item) (top : ℕ) (has : HasRank ranking.order pivot top) where
    up_to : (v : Item) → IsRankedUpTo ranking.order top v → (v ≡ pivot) ⊎ Before v pivot
    up_to v (rank, is, most) = elim (cases_lt rank top) [
      | inl less ↦ inr (before v pivot rank top is has less)
      | inr least ↦
          let same : rank ≡ top = omega (arith, most, least) in
          inl (sym (at_rank v rank v is) ∙ ap (λ r. get_or ranking.order (r - 1) v) same ∙ at_rank pivot top v has)
    ]

    up_from : (v : Item) → Frequent v → (v ≡ pivot) ⊎ Before v pivot → IsRankedUpTo ranking.order top v
    up_from v frequent (inl same) = (top, subst (λ x. HasRank ranking.order x top) (sym same) has, omega arith)
    up_from v frequent (inr earlier) =
        let (rank, is) = rank_of v frequent in
        (rank, is, elim (cases_lt top rank) [ inl more ↦ absurd (not_both v pivot earlier (before pivot v top rank has is more)) | inr most ↦ most ])

    all_from : (items : List Item) → AreFrequentItems d items → AllByRecursion (λ v. (v ≡ pivot) ⊎ Before v pivot) items
        → AllByRecursion (IsRankedUpTo ranking.order top) items
    all_from [] frequent last = tt
    all_from (v ∷ items) frequent last = (up_from v frequent.0 last.0, all_from items frequent.1 last.1)

    -- its bound by ranks is that by items
    pub bound-same : (items : List Item) → IsWithin ranking.order top (Some top) items ↔ Bound pivot items
    bound-same items = (
      (λ is.
          let (v, held, at) = is.needed in
          let same : v ≡ pivot = sym (at_rank v top v at) ∙ at_rank pivot top v has in
          record {
            frequent = AllByRecursion-weaker (IsRankedUpTo ranking.order top) Frequent
                (λ w (rank, is_rank, most). (ranks.frequent w).0 (HasRank-held ranking.order w rank is_rank)) items is.ranked;
            held = subst (Contains items) same held;
            last = AllByRecursion-weaker (IsRankedUpTo ranking.order top) (λ w. (w ≡ pivot) ⊎ Before w pivot) up_to items is.ranked;
          }),
      (λ is. record { ranked = all_from items is.frequent is.last; needed = (pivot, is.held, has) }),
    )

    -- and so are its alive labels
    pub label-same : (prefix : List Item) (list : List ℕ) → AreRanked ranking.order prefix list
        → IsAliveLabel d ranking.order top list ↔ IsAlive d (Bound pivot) prefix
    label-same prefix list ranked = (
      (λ is. subst (IsAlive d (Bound pivot)) (ranked-same ranking.order is.prefix prefix list is.ranked ranked)
          (IsAlive-weaker d (IsWithinPivot ranking.order top) (Bound pivot)
          (λ items within. (bound-same items).0 ((within-top ranking.order top has.least items).0 within)) is.prefix is.alive)),
      (λ alive. record {
        prefix = prefix;
        ranked = ranked;
        alive = IsAlive-weaker d (Bound pivot) (IsWithinPivot ranking.order top)
            (λ items is. (within-top ranking.order top has.least items).1 ((bound-same items).1 is)) prefix alive;
      }),
    )

  module _ (least : 1 ≤ d.threshold) where
    abbrev pub item_at : ℕ → Item
    item_at = item_of_rank ranking.order

    -- the items of a label
    abbrev pub items_of : List ℕ → Item × List Item
    items_of [] = (item_at 0, [])
    items_of (top ∷ list) = (item_at top, map item_at list)

    abbrev pub IsLabel : ℕ → List ℕ → Type 0
    IsLabel top list = (1 ≤ top) × IsAliveLabel d ranking.order top list

    abbrev pub IsItemLabel : Item × List Item → Type 0
    IsItemLabel label = IsAlive d (Bound label.0) label.1

    -- an alive label has the ranks of its items
    pub label-ranked : (top : ℕ) (list : List ℕ) → IsLabel top list
        → HasRank ranking.order (item_at top) top × AreRanked ranking.order (map item_at list) list
    label-ranked zero list (some, is) = absurd (omega (arith, some))
    label-ranked (suc top) list (some, is) =
        let (s, held, (more, pattern, bounded)) = IsAlive-some d (IsWithinPivot ranking.order (suc top)) is.prefix least is.alive in
        let (v, inside, has) = bounded.needed in (
          subst (λ x. HasRank ranking.order x (suc top)) (sym (at_rank v (suc top) (record { 0 = 0 }) has)) has,
          subst (λ l. AreRanked ranking.order l list) (sym (ranked-items ranking.order is.prefix list is.ranked)) is.ranked,
        )

    pub label-forth : (top : ℕ) (list : List ℕ) → IsLabel top list → IsItemLabel (item_at top, map item_at list)
    label-forth top list is =
        let (has, ranked) = label-ranked top list is in (label-same (item_at top) top has (map item_at list) list ranked).0 is.1

    -- an alive label of items has ranks
    pub label-back : (pivot : Item) (prefix : List Item) → IsItemLabel (pivot, prefix)
        → (top : ℕ) × (list : List ℕ) × (pivot ≡ item_at top) × (prefix ≡ map item_at list) × IsLabel top list
    label-back pivot prefix alive =
        let (s, held, (more, pattern, bound)) = IsAlive-some d (Bound pivot) prefix least alive in
        let (top, has) = rank_of pivot (AllByRecursion-contained Frequent (prefix ++ more) pivot bound.frequent bound.held) in
        let (list, ranked) = frequent-ranks d ranking ranks prefix (front_of_both Frequent prefix more bound.frequent) in (
          top,
          list,
          sym (at_rank pivot top (record { 0 = 0 }) has),
          sym (ranked-items ranking.order prefix list ranked),
          (has.least, (label-same pivot top has prefix list ranked).1 alive),
        )

    pub one_top : (top other : ℕ) (list others : List ℕ) → IsLabel top list → IsLabel other others → item_at top ≡ item_at other → top ≡ other
    one_top top other list others is also same =
        item_rank ranking.order ranks.once (item_at top) top other (label-ranked top list is).0
        (subst (λ v. HasRank ranking.order v other) (sym same) (label-ranked other others also).0)

    pub one_list : (top other : ℕ) (list others : List ℕ) → IsLabel top list → IsLabel other others → map item_at list ≡ map item_at others → list ≡ others
    one_list top other list others is also same =
        same_ranks ranking.order ranks.once (map item_at list) list others (label-ranked top list is).1
        (subst (λ l. AreRanked ranking.order l others) (sym same) (label-ranked other others also).1)

    -- THE WORK by ranks is that by items
    pub partition-items : (work : Work) → IsRankedPartitionWork d ranking.order work → IsPartitionWork (IsNamedBefore names) d work
    partition-items work is = record {
      nodes = IsNumberOf-by
          (λ label. (top : ℕ) × (list : List ℕ) × (1 ≤ top) × (label ≡ label_of top list) × IsAliveLabel d ranking.order top list)
          IsItemLabel items_of work.nodes
          (λ x y (top, list, some, is, alive) (other, others, also, is_other, alive_other) same.
          let both : items_of (label_of top list) ≡ items_of (label_of other others) = sym (ap items_of is) ∙ same ∙ ap items_of is_other in
          let first : top ≡ other = one_top top other list others (some, alive) (also, alive_other) (ap (λ l. l.0) both) in
          let rest : list ≡ others = one_list top other list others (some, alive) (also, alive_other) (ap (λ l. l.1) both) in
          is ∙ (λ i. first i ∷ rest i) ∙ sym is_other)
          (λ x (top, list, some, is, alive). subst (λ l. IsItemLabel (items_of l)) (sym is) (label-forth top list (some, alive)))
          (λ label alive.
          let (top, list, first, rest, is) = label-back label.0 label.1 alive in
          (label_of top list, (λ i. (first i, rest i)), (top, list, is.0, refl, is.1)))
          (record { things = is.labels; once = is.once; exact = is.alive; counted = is.nodes });
      parts = IsNumberOf-by (λ top. IsLabel top []) (λ pivot. IsItemLabel (pivot, [])) item_at work.parts
          (λ x y here there same. one_top x y [] [] here there same)
          (λ top is. label-forth top [] is)
          (λ pivot alive.
          let (top, list, first, rest, is) = label-back pivot [] alive in
          (top, first, subst (IsLabel top) (map-none item_at list (sym rest)) is))
          (record {
            things = is.pivots;
            once = λ i j e less inside same. (let rises = is.are_alive.rising i j e less inside in omega (arith, rises, same));
            exact = is.are_alive.exact;
            counted = is.parts;
          });
      candidates = is.candidates;
    }
