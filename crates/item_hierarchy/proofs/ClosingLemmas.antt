-- From gathered lists to a hierarchy, and why there may be none.
use Rattle.std.proofs.Common.{◌≡◌, ◌≢◌, ℕ, ◌+◌, ◌≤◌, ◌<◌, ◌↔◌, inl, inr, List, [], ◌∷◌, ◌++◌, map, length, get_or, refl, sym, ap, ◌∙◌, subst, arith}
use Rattle.std.specs.List.{All, AllPairs, Contains}
use Rattle.std.specs.List.Sorted.{IsPermutation}
use Rattle.std.proofs.lemmas.List.{get_or_default, length_push, length-append, length-map}
use Rattle.std.proofs.lemmas.List.Elements.{Contains-get_or, All-append, All-contains}
use Rattle.std.proofs.lemmas.List.Sorted.{Contains-permutation, IsPermutation-sym, IsPermutation-map}
use Rattle.std.proofs.lemmas.Bool.{cases_lt}
use Rattle.mine_model.specs.declared.item.Item.{Item}
use Rattle.item_hierarchy.specs.declared.hierarchy_fault.CloseFault.{CloseFault}
use Rattle.item_hierarchy.specs.declared.hierarchy_fault.CloseFault.TheVariants.{Cycle, TooManyAncestors, NoMemory}
use Rattle.mine_model.specs.Limits.{most_ancestors}
use Rattle.mine_model.specs.Hierarchy.{Link, IsWalk, IsAncestor, IsAcyclic, HasMoreAncestors}
use Rattle.flat_lists.specs.Cuts.{AreCut, list_at}
use Rattle.mine_model.specs.Ancestry.{Ancestry, item_at, AreRising, Lists, AreAncestorLists}
use Rattle.mine_model.proofs.ListLemmas.{Contains-by, Contains-from, AllPairs-append, apart_by_image}
use Rattle.mine_model.proofs.NameLemmas.{distinct_fit}
use Rattle.flat_lists.proofs.CutLemmas.{cut-more, list_at-old, list_at-new}
use Rattle.mine_model.proofs.WalkLemmas.{IsAncestor-chain, IsAncestor-more, HasCycle-more, IsAcyclic-fewer, same_or_cycle}
use Rattle.item_hierarchy.specs.declared.edges.EdgeRow.{EdgeRow}
use Rattle.item_hierarchy.specs.declared.ancestors.Part.{Part}
use Rattle.item_hierarchy.specs.Edges.{link_of, links_of, AreWithin, IsCloseRefusal, Closes}
use Rattle.item_hierarchy.specs.Walking.{links_upto, IsParentsFirst}
use Rattle.item_hierarchy.specs.Gathering.{list_in, IsGathered, AreGathered, IsPart, AreFew}
use Rattle.item_hierarchy.proofs.WalkingLemmas.{linked_upto, upto_linked, no_cycle}
use Rattle.item_hierarchy.proofs.GatheringLemmas.{rising_apart, ancestor_within}

-- Lists in the order of their items

-- the lists of the numbers below n, one behind the other
pub record AreOrdered (parts : List Part) (lists : List Item) (n : ℕ) (ends : List ℕ) (ordered : List Item) : Type 0 where
  pub size : length ends ≡ n
  pub cut : AreCut ends (length ordered)
  pub same : (m : ℕ) → m < n → list_at ends ordered m ≡ list_in parts lists m
  pub made : (made : List (Link Item)) × (length made ≡ length ordered) × AllPairs (λ p q. p ≢ q) made
      × All (λ p. (p.child.0 < n) × Contains (list_in parts lists p.child.0) p.parent) made

module _ (parts : List Part) (lists : List Item) (n : ℕ) (ends : List ℕ) (ordered : List Item) (are : AreOrdered parts lists n ends ordered) where
  pub ordered_few : n ≤ length parts → AreFew parts lists → length ordered ≤ most_ancestors
  ordered_few upto (pairs, few, inside) =
      let (made, size, apart, each) = are.made in
      let fit : length made ≤ length pairs = distinct_fit made pairs apart (λ k d within.
      let (below, member) = each k d within in
      inside (get_or made k d).child (get_or made k d).parent (omega arith) member) in
      omega (arith, fit, size, few)

  pub one_more_ordered : (to : ℕ) → to ≡ length ordered + length (list_in parts lists n) → IsPart parts lists n
      → AreOrdered parts lists (n + 1) (ends ++ to ∷ []) (ordered ++ list_in parts lists n)
  one_more_ordered to is part =
      let own : List Item = list_in parts lists n in
      let made : Item → Link Item = λ w. record { child = item_at n; parent = w } in
      let (old, size, apart, each) = are.made in
      record {
        size = length_push ends to ∙ ap (λ n. n + 1) are.size;
        cut = cut-more ends ordered own to is are.cut;
        same = λ m below. elim (cases_lt m n) [
          | inl before ↦ list_at-old ends ordered own to is are.cut m (omega (arith, are.size)) ∙ are.same m before
          | inr beyond ↦
              let last : m ≡ length ends = omega (arith, are.size) in
              let last' : m ≡ n = omega arith in
              ap (list_at (ends ++ to ∷ []) (ordered ++ own)) last ∙ list_at-new ends ordered own to is are.cut ∙ ap (list_in parts lists) (sym last')
        ];
        made = (
          old ++ map made own,
          length-append old (map made own) ∙ sizes old own size,
          AllPairs-append (λ p q. p ≢ q) old (map made own) apart
              (apart_by_image made (λ v w same. ap (λ p. p.parent) same) own (rising_apart own part.rising))
              (λ p q held held' same.
              let (w, inside, made_of) = Contains-from made own q held' in
              let (below, member) = All-contains (λ p. (p.child.0 < n) × Contains (list_in parts lists p.child.0) p.parent) old p each held in
              omega (arith, below, ap (λ l. l.child.0) (same ∙ made_of))),
          All-append (λ p. (p.child.0 < n + 1) × Contains (list_in parts lists p.child.0) p.parent) old (map made own)
              (λ k d below. let (less, member) = each k d below in (omega arith, member))
              (λ k d below.
              let (w, inside, made_of) = Contains-from made own (get_or (map made own) k d) (k, below, get_or_default (map made own) k (get_or (map made own) k d) d below) in
              subst (λ p. (p.child.0 < n + 1) × Contains (list_in parts lists p.child.0) p.parent) (sym made_of) (omega arith, inside)),
        );
      }
    where
      sizes : (old : List (Link Item)) (own : List Item) → length old ≡ length ordered
          → length old + length (map (λ (w : Item). let made : Link Item = record { child = item_at n; parent = w } in made) own) ≡ length (ordered ++ own)
      sizes old own size =
          let made : Item → Link Item = λ w. record { child = item_at n; parent = w } in
          omega (arith, size, length-map own made, length-append ordered own)

-- The hierarchy of the lists

module _ (items : ℕ) (rows : List EdgeRow) (within : AreWithin items rows) (order : List Item) (first : IsParentsFirst (links_of rows) items order)
    (parts : List Part) (lists : List Item) (size : length parts ≡ items) (gathered : AreGathered (links_of rows) order parts lists) where
  gathered_at : (t : Item) → t.0 < items → IsGathered (links_of rows) parts lists t
  gathered_at t inside = All-contains (λ t. IsGathered (links_of rows) parts lists t) order t gathered.each (first.complete t inside)

  pub parts_of_all : (n : ℕ) → n < length parts → IsPart parts lists n
  parts_of_all n below =
      let one : IsGathered (links_of rows) parts lists (item_at n) = gathered_at (item_at n) (omega (arith, size)) in
      record { forward = one.forward; within = one.within; rising = one.rising }

  pub few_pairs : length lists ≤ most_ancestors → AreFew parts lists
  few_pairs few = (
    gathered.together.0,
    omega (arith, gathered.together.2),
    λ t w below held.
        let inside : t.0 < items = omega (arith, size) in
        gathered.together.1.complete t w (first.complete t inside) (((gathered_at t inside).ancestors w).0 held),
  )

  pub not_more : length lists ≤ most_ancestors → HasMoreAncestors most_ancestors (links_of rows) (λ t. t.0 < items) → ⊥
  not_more few (pairs, apart, each, more) =
      let fit : length pairs ≤ length gathered.together.0 = distinct_fit pairs gathered.together.0 apart (λ k d within.
      let (inside, up) = each k d within in
      gathered.together.1.complete (get_or pairs k d).child (get_or pairs k d).parent (first.complete (get_or pairs k d).child inside) up) in
      omega (arith, fit, more, gathered.together.2)

  module _ (acyclic : IsAcyclic (links_of rows)) (ends : List ℕ) (ordered : List Item) (as_many : length ends ≡ length parts) (cut : AreCut ends (length ordered))
      (same : (n : ℕ) → n < length parts → list_at ends ordered n ≡ list_in parts lists n) where
    pub listed : (t w : Item) → t.0 < items → (Lists ends ordered t w ↔ IsAncestor (links_of rows) w t)
    listed t w inside =
        let is : list_at ends ordered t.0 ≡ list_in parts lists t.0 = same t.0 (omega (arith, size)) in (
          λ held. ((gathered_at t inside).ancestors w).0 (subst (λ list. Contains list w) is held.1),
          λ up. (omega (arith, as_many, size), subst (λ list. Contains list w) (sym is) (((gathered_at t inside).ancestors w).1 up)),
        )

    below_items : (t w : Item) → Lists ends ordered t w → t.0 < items
    below_items t w held = omega (arith, held.0, as_many, size)

    pub are_lists : AreAncestorLists ends ordered
    are_lists = record {
      cut = cut;
      rising = λ n below.
          let inside : n < items = omega (arith, as_many, size) in
          subst AreRising (sym (same n (omega (arith, as_many)))) (gathered_at (item_at n) inside).rising;
      itself = λ n below. (listed (item_at n) (item_at n) (omega (arith, as_many, size))).1 ([], refl);
      within = λ t w held.
          let up : IsAncestor (links_of rows) w t = (listed t w (below_items t w held)).0 held in
          omega (arith, as_many, size, ancestor_within items rows within t up.0 w (below_items t w held) up.1);
      closed = λ t v w held held'.
          (listed t w (below_items t v held)).1 (IsAncestor-chain (links_of rows) w v t ((listed v w (below_items v w held')).0 held') ((listed t v (below_items t v held)).0 held));
      apart = λ t w held held'. elim (same_or_cycle (links_of rows) t w ((listed t w (below_items t w held)).0 held) ((listed w t (below_items w t held')).0 held')) [
        | inl same ↦ same
        | inr cycle ↦ absurd (acyclic cycle)
      ];
    }

    pub closes : length lists ≤ most_ancestors → (h : Ancestry) → h.items ≡ length ends
        → ((t w : Item) → t.0 < length ends → (IsAncestor h.links w t ↔ Lists ends ordered t w))
        → All (λ link. (link.child.0 < h.items) × (link.parent.0 < h.items)) h.links → Closes items rows h
    closes few h items_are ancestors links_within = record {
      items_are = items_are ∙ as_many ∙ size;
      ancestors = λ w t. elim (cases_lt t.0 items) [
        | inl inside ↦
            let of_h = ancestors t w (omega (arith, as_many, size)) in
            let of_rows = listed t w inside in (λ up. of_rows.0 (of_h.0 up), λ up. of_h.1 (of_rows.1 up))
        | inr beyond ↦ (
          λ up. ([], alone h.links (λ link held. omega (arith, (All-contains (λ link. (link.child.0 < h.items) × (link.parent.0 < h.items)) h.links link links_within held).0, items_are, as_many, size)) t up.0 w beyond up.1),
          λ up. (
            [],
            alone (links_of rows) (λ link held.
                let (row, inside, is) = Contains-from link_of rows link held in
                omega (arith, (All-contains (λ row. (row.child.0 < items) × (row.parent.0 < items)) rows row within inside).0, ap (λ l. l.child.0) is)) t up.0 w beyond up.1,
          ),
        )
      ];
      acyclic = acyclic;
      few = not_more few;
    }
      where
        alone : (links : List (Link Item)) → ((link : Link Item) → Contains links link → link.child.0 < items) → (t : Item) (steps : List Item) (w : Item)
            → items ≤ t.0 → IsWalk links t steps w → t ≡ w
        alone links below t [] w beyond same = same
        alone links below t (next ∷ steps) w beyond walk = absurd (omega (arith, below (record { child = t; parent = next }) walk.0))

-- Cycles

-- the items of the links up to a line are among the items
pub upto_within : (items : ℕ) (rows : List EdgeRow) (line : ℕ) → AreWithin items rows → All (λ l. l.child.0 < items) (links_upto line rows)
upto_within items rows line within k d below =
    let link : Link Item = get_or (links_upto line rows) k d in
    let (row, held, early, is) = upto_linked line rows link (Contains-get_or (links_upto line rows) k d below) in
    omega (arith, (All-contains (λ row. (row.child.0 < items) × (row.parent.0 < items)) rows row within held).0, ap (λ l. l.child.0) is)

-- where parents come first up to a line, there is no cycle up to an earlier one
pub acyclic_before : (items : ℕ) (rows : List EdgeRow) (line : ℕ) (order : List Item) → AreWithin items rows → IsParentsFirst (links_upto line rows) items order
    → (earlier : ℕ) → earlier < line + 1 → IsAcyclic (links_upto earlier rows)
acyclic_before items rows line order within first earlier upto =
    IsAcyclic-fewer (links_upto earlier rows) (links_upto line rows)
    (λ link held. let (row, inside, early, is) = upto_linked earlier rows link held in
    subst (Contains (links_upto line rows)) (sym is) (linked_upto line rows row inside (omega arith)))
    (no_cycle (links_upto line rows) items order first (upto_within items rows line within))

-- with all lines the links up to the last are those of the rows
module _ (rows : List EdgeRow) (last : ℕ) (lines : All (λ row. row.line ≤ last) rows) where
  pub all_upto : (link : Link Item) → Contains (links_of rows) link → Contains (links_upto last rows) link
  all_upto link held =
      let (row, inside, is) = Contains-from link_of rows link held in
      subst (Contains (links_upto last rows)) (sym is) (linked_upto last rows row inside (All-contains (λ row. row.line ≤ last) rows row lines inside))

  pub upto_all : (link : Link Item) → Contains (links_upto last rows) link → Contains (links_of rows) link
  upto_all link held =
      let (row, inside, early, is) = upto_linked last rows link held in
      subst (Contains (links_of rows)) (sym is) (Contains-by link_of rows row inside)

  pub first_of_all : (items : ℕ) (order : List Item) → IsParentsFirst (links_upto last rows) items order → IsParentsFirst (links_of rows) items order
  first_of_all items order first = record {
    within = first.within;
    complete = first.complete;
    once = first.once;
    first = λ k d parent below linked. first.first k d parent below (all_upto _ linked);
  }

  pub acyclic_all : (items : ℕ) (order : List Item) → AreWithin items rows → IsParentsFirst (links_upto last rows) items order → IsAcyclic (links_of rows)
  acyclic_all items order within first = IsAcyclic-fewer (links_of rows) (links_upto last rows) all_upto
      (no_cycle (links_upto last rows) items order first (upto_within items rows last within))

-- Rows in another order

module _ (rows others : List EdgeRow) (moved : IsPermutation rows others) where
  there : (link : Link Item) → Contains (links_of rows) link → Contains (links_of others) link
  there link held = Contains-permutation (links_of rows) (links_of others) link (IsPermutation-map link_of rows others moved) held

  back : (link : Link Item) → Contains (links_of others) link → Contains (links_of rows) link
  back link held = Contains-permutation (links_of others) (links_of rows) link (IsPermutation-sym (links_of rows) (links_of others) (IsPermutation-map link_of rows others moved)) held

  upto_there : (line : ℕ) (link : Link Item) → Contains (links_upto line rows) link → Contains (links_upto line others) link
  upto_there line link held =
      let (row, inside, early, is) = upto_linked line rows link held in
      subst (Contains (links_upto line others)) (sym is) (linked_upto line others row (Contains-permutation rows others row moved inside) early)

  upto_back : (line : ℕ) (link : Link Item) → Contains (links_upto line others) link → Contains (links_upto line rows) link
  upto_back line link held =
      let (row, inside, early, is) = upto_linked line others link held in
      subst (Contains (links_upto line rows)) (sym is) (linked_upto line rows row (Contains-permutation others rows row (IsPermutation-sym rows others moved) inside) early)

  more_back : (items : ℕ) → HasMoreAncestors most_ancestors (links_of others) (λ t. t.0 < items) → HasMoreAncestors most_ancestors (links_of rows) (λ t. t.0 < items)
  more_back items (pairs, apart, each, more) = (
    pairs,
    apart,
    (λ k d below. let (inside, up) = each k d below in (inside, IsAncestor-more (links_of others) (links_of rows) back _ _ up)),
    more,
  )

  more_there : (items : ℕ) → HasMoreAncestors most_ancestors (links_of rows) (λ t. t.0 < items) → HasMoreAncestors most_ancestors (links_of others) (λ t. t.0 < items)
  more_there items (pairs, apart, each, more) = (
    pairs,
    apart,
    (λ k d below. let (inside, up) = each k d below in (inside, IsAncestor-more (links_of rows) (links_of others) there _ _ up)),
    more,
  )

  pub closes_moved : (items : ℕ) (h : Ancestry) → Closes items others h → Closes items rows h
  closes_moved items h closes = record {
    items_are = closes.items_are;
    ancestors = λ w t. (
      λ up. IsAncestor-more (links_of others) (links_of rows) back w t ((closes.ancestors w t).0 up),
      λ up. (closes.ancestors w t).1 (IsAncestor-more (links_of rows) (links_of others) there w t up),
    );
    acyclic = IsAcyclic-fewer (links_of rows) (links_of others) there closes.acyclic;
    few = λ more. closes.few (more_there items more);
  }

  pub refusal_moved : (items : ℕ) (e : CloseFault) → IsCloseRefusal items others e → IsCloseRefusal items rows e
  refusal_moved items (Cycle line) (cycle, none) = (
    HasCycle-more (links_upto line others) (links_upto line rows) (upto_back line) cycle,
    λ earlier less. IsAcyclic-fewer (links_upto earlier rows) (links_upto earlier others) (upto_there earlier) (none earlier less),
  )
  refusal_moved items TooManyAncestors (acyclic, more) = (IsAcyclic-fewer (links_of rows) (links_of others) there acyclic, more_back items more)
  refusal_moved items NoMemory none = tt
