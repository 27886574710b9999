-- Gathering the ancestors of items from the lists of their parents.
use Rattle.std.proofs.Common.{◌≡◌, ◌≢◌, ℕ, zero, suc, ◌+◌, ◌-◌, ◌≤◌, ◌<◌, ◌⊎◌, ◌↔◌, inl, inr, List, [], ◌∷◌, ◌++◌, map, length, get_or, set, take, refl, sym, ap, ◌∙◌, subst, arith, add-one}
use Rattle.std.specs.List.{All, AllPairs, Contains, slice_index, slice_range}
use Rattle.std.proofs.lemmas.List.{get_or_default, length_push, length-set, get_or-set_same, get_or-set_other, length-append, length-map, length-take, get_or-take, take_all, drop_at}
use Rattle.std.proofs.lemmas.List.Elements.{Contains-get_or, Contains-append_left, Contains-append_right, Contains-push, Contains-push_cases, All-push, All-append, All-contains}
use Rattle.std.proofs.lemmas.List.Quantifiers.{all_pairs_push}
use Rattle.std.proofs.lemmas.Bool.{cases_lt, cases_eq}
use Rattle.mine_model.specs.declared.item.Item.{Item}
use Rattle.mine_model.specs.Limits.{most_ancestors}
use Rattle.mine_model.specs.Hierarchy.{Link, IsWalk, IsAncestor, IsAcyclic, HasMoreAncestors}
use Rattle.mine_model.specs.Ancestry.{AreRising}
use Rattle.mine_model.proofs.ListLemmas.{Contains-by, Contains-from, Contains-first, AllPairs-append, apart_by_image, slice_range-append}
use Rattle.mine_model.proofs.AncestryLemmas.{Item-same}
use Rattle.mine_model.proofs.WalkLemmas.{IsAncestor-chain}
use Rattle.item_hierarchy.specs.declared.edges.EdgeRow.{EdgeRow}
use Rattle.item_hierarchy.specs.declared.ancestors.Part.{Part}
use Rattle.item_hierarchy.specs.Edges.{link_of, links_of, AreWithin}
use Rattle.item_hierarchy.specs.ByChild.{AreByChild}
use Rattle.item_hierarchy.specs.Gathering.{AreStamped, AreFor, HoldsAncestors, part_at, list_in, IsGathered, AreGathered, Adds, Overflows}

-- Stamps

module _ (stamp : ℕ) (seen : List ℕ) (gathered : List Item) (are : AreStamped stamp seen gathered) (w : Item) (within : w.0 < length seen) (new : slice_index seen w.0 ≢ stamp) where
  pub new_not_gathered : Contains gathered w → ⊥
  new_not_gathered held = new (All-contains (λ w. slice_index seen w.0 ≡ stamp) gathered w are.stamped held)

  apart_from : (v : Item) → Contains gathered v → (v.0 ≢ w.0)
  apart_from v held same = new_not_gathered (subst (Contains gathered) (Item-same v w same) held)

  pub stamped-push : AreStamped stamp (set seen w.0 stamp) (gathered ++ w ∷ [])
  stamped-push =
      let size : length (set seen w.0 stamp) ≡ length seen = length-set seen w.0 stamp in
      record {
        within = All-push (λ v. v.0 < length (set seen w.0 stamp)) gathered w (λ k d below. omega (arith, are.within k d below)) (omega arith);
        apart = all_pairs_push (λ v w. v ≢ w) gathered w are.apart
            (λ k d below same. apart_from (get_or gathered k d) (Contains-get_or gathered k d below) (ap (λ t. t.0) same));
        stamped = All-push (λ v. slice_index (set seen w.0 stamp) v.0 ≡ stamp) gathered w
            (λ k d below. get_or-set_other seen w.0 (get_or gathered k d).0 stamp 0 (apart_from (get_or gathered k d) (Contains-get_or gathered k d below)) ∙ are.stamped k d below)
            (get_or-set_same seen w.0 stamp 0 within);
        held = λ v inside is. elim (cases_eq v.0 w.0) [
          | inl same ↦ subst (Contains (gathered ++ w ∷ [])) (Item-same w v (sym same)) (Contains-push gathered w)
          | inr apart ↦ Contains-append_left gathered (w ∷ []) v (are.held v (omega arith) (sym (get_or-set_other seen w.0 v.0 stamp 0 apart) ∙ is))
        ];
      }

  -- a stamp is the new one or was there before
  pub seen-set : (n : ℕ) → (slice_index (set seen w.0 stamp) n ≡ stamp) ⊎ (slice_index (set seen w.0 stamp) n ≡ slice_index seen n)
  seen-set n =
      elim (cases_eq n w.0) [
        | inl same ↦ inl (ap (slice_index (set seen w.0 stamp)) same ∙ get_or-set_same seen w.0 stamp 0 within)
        | inr apart ↦ inr (get_or-set_other seen w.0 n stamp 0 apart)
      ]

-- Order

pub rising_from_adjacent : (items : List Item) → ((k : ℕ) (d : Item) → k + 1 < length items → (get_or items k d).0 < (get_or items (k + 1) d).0) → AreRising items
rising_from_adjacent items adjacent i zero d less within = absurd (omega arith)
rising_from_adjacent items adjacent i (suc j) d less within =
    let step : (get_or items j d).0 < (get_or items (suc j) d).0 = subst (λ n. (get_or items j d).0 < (get_or items n d).0) (add-one j) (adjacent j d (omega arith)) in
    elim (cases_eq i j) [
      | inl same ↦ subst (λ i. (get_or items i d).0 < (get_or items (suc j) d).0) (sym same) step
      | inr other ↦ omega (arith, step, rising_from_adjacent items adjacent i j d (omega arith) (omega arith))
    ]

pub rising_apart : (items : List Item) → AreRising items → AllPairs (λ v w. v ≢ w) items
rising_apart items rising i j d less within same = omega (arith, rising i j d less within, ap (λ t. t.0) same)

-- Ancestors from those of the parents

module _ (links : List (Link Item)) (t : Item) (acyclic : IsAcyclic links) where
  pub parent_apart : (parent : Item) → Contains links (record { child = t; parent = parent }) → (parent ≢ t)
  parent_apart parent linked same = acyclic (t, t, [], (subst (λ p. Contains links (record { child = t; parent = p })) same linked, refl))

  pub holds-first : HoldsAncestors links t (t ∷ [])
  holds-first = record {
    itself = Contains-first t [];
    sound = λ w held. ([], sym (only w held));
    closed = λ v w held apart up. absurd (apart (only v held));
  }
    where
      only : (w : Item) → Contains (t ∷ []) w → w ≡ t
      only w (zero, below, is) = sym is
      only w (suc k, below, is) = absurd (omega arith)

  -- once a parent with its list is gathered, too
  module _ (gathered more list : List Item) (parent : Item) (holds : HoldsAncestors links t gathered)
      (linked : Contains links (record { child = t; parent = parent }))
      (are : (w : Item) → (Contains list w ↔ IsAncestor links w parent))
      (kept : (w : Item) → Contains gathered w → Contains more w)
      (from : (w : Item) → Contains more w → Contains gathered w ⊎ Contains list w) where
    pub sound-more : (w : Item) → Contains more w → IsAncestor links w t
    sound-more w held =
        elim (from w held) [
          | inl old ↦ holds.sound w old
          | inr new ↦ IsAncestor-chain links w parent t ((are w).0 new) (parent ∷ [], (linked, refl))
        ]

    module _ (all : Contains gathered parent ⊎ All (λ w. Contains more w) list) where
      list_held : (w : Item) → Contains list w → Contains more w
      list_held w held =
          elim all [
            | inl old ↦ kept w (holds.closed parent w old (parent_apart parent linked) ((are w).0 held))
            | inr new ↦ All-contains (λ w. Contains more w) list w new held
          ]

      pub parent_held : Contains more parent
      parent_held = list_held parent ((are parent).1 ([], refl))

      pub holds-more : HoldsAncestors links t more
      holds-more = record {
        itself = kept t holds.itself;
        sound = sound-more;
        closed = λ v w held apart up. elim (from v held) [
          | inl old ↦ kept w (holds.closed v w old apart up)
          | inr new ↦ list_held w ((are w).1 (IsAncestor-chain links w v parent up ((are v).0 new)))
        ];
      }

  -- with all parents all ancestors are held
  pub holds-all : (gathered : List Item) → HoldsAncestors links t gathered
      → ((parent : Item) → Contains links (record { child = t; parent = parent }) → Contains gathered parent)
      → (w : Item) → IsAncestor links w t → Contains gathered w
  holds-all gathered holds parents w ([], same) = subst (Contains gathered) same holds.itself
  holds-all gathered holds parents w (next ∷ steps, walk) = holds.closed next w (parents next walk.0) (parent_apart next walk.0) (steps, walk.1)

-- a link of the item is one of its rows
pub parents_of_rows : (items : ℕ) (starts : List ℕ) (rows : List EdgeRow) (t : Item) (P : Item → Type 0) → AreByChild items starts rows
    → ((k : ℕ) (d : EdgeRow) → get_or starts t.0 0 ≤ k → k < get_or starts (t.0 + 1) 0 → P (get_or rows k d).parent)
    → (parent : Item) → Contains (links_of rows) (record { child = t; parent = parent }) → P parent
parents_of_rows items starts rows t P sorted each parent linked =
    let (row, (k, below, is), same) = Contains-from link_of rows (record { child = t; parent = parent }) linked in
    let child : t.0 ≡ (get_or rows k row).child.0 = ap (λ l. l.child.0) same ∙ ap (λ r. r.child.0) (sym is) in
    let (start, upto) = sorted.all k row below in
    let held : P (get_or rows k row).parent =
    each k row (subst (λ n. get_or starts n 0 ≤ k) (sym child) start) (subst (λ n. k < get_or starts (n + 1) 0) (sym child) upto) in
    subst P (ap (λ r. r.parent) is ∙ sym (ap (λ l. l.parent) same)) held

-- a row of the item is a link of it
pub row_is_link : (items : ℕ) (starts : List ℕ) (rows : List EdgeRow) (t : Item) → AreByChild items starts rows → t.0 < items
    → (k : ℕ) (d : EdgeRow) → get_or starts t.0 0 ≤ k → k < get_or starts (t.0 + 1) 0
    → Contains (links_of rows) (record { child = t; parent = (get_or rows k d).parent })
row_is_link items starts rows t sorted inside k d start upto =
    let within : k < length rows = omega (arith, upto, sorted.within (t.0 + 1) (omega arith)) in
    let child : (get_or rows k d).child ≡ t = Item-same _ t (sorted.own t.0 k d inside start upto) in
    subst (λ t. Contains (links_of rows) (record { child = t; parent = (get_or rows k d).parent })) child
    (Contains-by link_of rows (get_or rows k d) (Contains-get_or rows k d within))

-- One more item

module _ (links : List (Link Item)) (t : Item) (old new : List Part) (lists own sorted : List Item) where
  pub adds : length new ≡ length old → t.0 < length old → ((n : ℕ) → (n ≢ t.0) → part_at new n ≡ part_at old n)
      → (part_at new t.0).from ≡ length lists → (part_at new t.0).to ≡ length lists + length sorted
      → AreRising sorted → ((w : Item) → (Contains sorted w ↔ IsAncestor links w t))
      → Adds links t old lists new (lists ++ sorted)
  adds size inside others from to rising are =
      let is : list_in new (lists ++ sorted) t.0 ≡ sorted =
      ap (λ f. slice_range (lists ++ sorted) f (part_at new t.0).to) from ∙ ap (slice_range (lists ++ sorted) (length lists)) to
      ∙ ap (λ l. take (length lists + length sorted - length lists) l) (drop_at lists sorted (length lists) refl)
      ∙ take_all (length lists + length sorted - length lists) sorted (omega arith) in
      record {
        size = size;
        gathered = record {
          inside = omega (arith, size);
          forward = omega (arith, from, to);
          within = omega (arith, to, length-append lists sorted);
          rising = subst AreRising (sym is) rising;
          ancestors = λ w. subst (λ list. Contains list w ↔ IsAncestor links w t) (sym is) (are w);
        };
        others = others;
        own = (sorted, refl, rising_apart sorted rising, are);
      }

module _ (links : List (Link Item)) (items : List Item) (parts : List Part) (lists : List Item) (gathered : AreGathered links items parts lists)
    (t : Item) (new : Contains items t → ⊥) where
  pairs_apart : (own : List Item) → AllPairs (λ v w. v ≢ w) own → AllPairs (λ p q. p ≢ q) (gathered.together.0 ++ map (λ w. record { child = t; parent = w }) own)
  pairs_apart own apart =
      let made : Item → Link Item = λ w. record { child = t; parent = w } in
      AllPairs-append (λ p q. p ≢ q) gathered.together.0 (map made own) gathered.together.1.once
      (apart_by_image made (λ v w same. ap (λ p. p.parent) same) own apart)
      (λ p q old own_pair same.
      let (w, held, is) = Contains-from made own q own_pair in
      let child : p.child ≡ t = ap (λ l. l.child) (same ∙ is) in
      new (subst (Contains items) child (All-contains (λ p. Contains items p.child × IsAncestor links p.parent p.child) gathered.together.0 p gathered.together.1.sound old).0))

  pub gathered-more : (new_parts : List Part) (new_lists : List Item) → Adds links t parts lists new_parts new_lists
      → AreGathered links (items ++ t ∷ []) new_parts new_lists
  gathered-more new_parts new_lists adds =
      let (own, is, apart, are) = adds.own in
      let made : Item → Link Item = λ w. record { child = t; parent = w } in
      record {
        each = All-push (λ v. IsGathered links new_parts new_lists v) items t
            (λ k d below. still (get_or items k d) own is (gathered.each k d below) (λ same. new (subst (Contains items) (Item-same _ t same) (Contains-get_or items k d below))))
            adds.gathered;
        together = (
          gathered.together.0 ++ map made own,
          record {
            once = pairs_apart own apart;
            sound = All-append (λ p. Contains (items ++ t ∷ []) p.child × IsAncestor links p.parent p.child) gathered.together.0 (map made own)
                (λ k d below. let (held, up) = gathered.together.1.sound k d below in (Contains-append_left items (t ∷ []) _ held, up))
                (λ k d below.
                let (w, held, same) = Contains-from made own (get_or (map made own) k d) (k, below, get_or_default (map made own) k (get_or (map made own) k d) d below) in
                subst (λ p. Contains (items ++ t ∷ []) p.child × IsAncestor links p.parent p.child) (sym same) (Contains-push items t, (are w).0 held));
            complete = λ v w held up. elim (Contains-push_cases items t v held) [
              | inl old ↦ Contains-append_left gathered.together.0 (map made own) _ (gathered.together.1.complete v w old up)
              | inr same ↦ subst (λ v. Contains (gathered.together.0 ++ map made own) (record { child = v; parent = w })) same
                  (Contains-append_right gathered.together.0 (map made own) (made w) (Contains-by made own w ((are w).1 (subst (IsAncestor links w) (sym same) up))))
            ];
          },
          length-append gathered.together.0 (map made own) ∙ sizes own is,
        );
      }
    where
      sizes : (own : List Item) → new_lists ≡ lists ++ own → length gathered.together.0 + length (map (λ (w : Item). let made : Link Item = record { child = t; parent = w } in made) own) ≡ length new_lists
      sizes own is =
          let made : Item → Link Item = λ w. record { child = t; parent = w } in
          omega (arith, gathered.together.2, length-map own made, ap length is, length-append lists own)

      still : (v : Item) (own : List Item) → new_lists ≡ lists ++ own → IsGathered links parts lists v → (v.0 ≢ t.0) → IsGathered links new_parts new_lists v
      still v own is old apart =
          let part : part_at new_parts v.0 ≡ part_at parts v.0 = adds.others v.0 apart in
          let same : list_in new_parts new_lists v.0 ≡ list_in parts lists v.0 =
          ap (λ p. slice_range new_lists p.from p.to) part ∙ ap (λ l. slice_range l (part_at parts v.0).from (part_at parts v.0).to) is
          ∙ slice_range-append lists own (part_at parts v.0).from (part_at parts v.0).to old.forward old.within in
          record {
            inside = omega (arith, adds.size, old.inside);
            forward = subst (λ p. p.from ≤ p.to) (sym part) old.forward;
            within = omega (arith, ap (λ p. p.to) part, old.within, ap length is, length-append lists own);
            rising = subst AreRising (sym same) old.rising;
            ancestors = λ w. subst (λ list. Contains list w ↔ IsAncestor links w v) (sym same) (old.ancestors w);
          }

  pub overflow : (n : ℕ) → All (λ v. v.0 < n) items → t.0 < n → Overflows links t (length lists) → HasMoreAncestors most_ancestors links (λ v. v.0 < n)
  overflow n within inside (own, apart, sound, more) =
      let made : Item → Link Item = λ w. record { child = t; parent = w } in (
        gathered.together.0 ++ map made own,
        pairs_apart own apart,
        All-append (λ p. (p.child.0 < n) × IsAncestor links p.parent p.child) gathered.together.0 (map made own)
            (λ k d below. let (held, up) = gathered.together.1.sound k d below in (All-contains (λ v. v.0 < n) items _ within held, up))
            (λ k d below.
            let (w, held, same) = Contains-from made own (get_or (map made own) k d) (k, below, get_or_default (map made own) k (get_or (map made own) k d) d below) in
            subst (λ p. (p.child.0 < n) × IsAncestor links p.parent p.child) (sym same) (inside, sound w held)),
        omega (arith, more, gathered.together.2, length-append gathered.together.0 (map made own), length-map own made),
      )

-- what has been gathered of a list up to an index
pub record Gathers (stamp room : ℕ) (list : List Item) (index : ℕ) (old_seen : List ℕ) (old : List Item) (seen : List ℕ) (gathered : List Item) : Type 0 where
  pub stamped : AreStamped stamp seen gathered
  pub kept : (w : Item) → Contains old w → Contains gathered w
  pub from : (w : Item) → Contains gathered w → Contains old w ⊎ Contains list w
  pub few : length gathered ≤ room
  pub all : (k : ℕ) (d : Item) → k < index → Contains gathered (get_or list k d)
  pub size : length seen ≡ length old_seen
  pub seen_before : (n : ℕ) → (slice_index seen n ≡ stamp) ⊎ (slice_index seen n ≡ slice_index old_seen n)

pub gathers-none : (stamp room : ℕ) (list : List Item) (seen : List ℕ) (old : List Item) → AreStamped stamp seen old → length old ≤ room
    → Gathers stamp room list 0 seen old seen old
gathers-none stamp room list seen old stamped few = record {
  stamped = stamped;
  kept = λ w held. held;
  from = λ w held. inl held;
  few = few;
  all = λ k d below. absurd (omega arith);
  size = refl;
  seen_before = λ n. inr refl;
}

module _ (stamp room : ℕ) (list : List Item) (index : ℕ) (old_seen : List ℕ) (old : List Item) (seen : List ℕ) (gathered : List Item)
    (gathers : Gathers stamp room list index old_seen old seen gathered) (d : Item) (below : index < length list)
    (within : (get_or list index d).0 < length seen) where
  all-more : (now : List Item) → ((w : Item) → Contains gathered w → Contains now w) → Contains now (get_or list index d)
      → (k : ℕ) (e : Item) → k < index + 1 → Contains now (get_or list k e)
  all-more now kept here k e upto =
      elim (cases_lt k index) [
        | inl before ↦ kept (get_or list k e) (gathers.all k e before)
        | inr last ↦
            let same : k ≡ index = omega arith in
            subst (Contains now) (get_or_default list index d e below ∙ ap (λ k. get_or list k e) (sym same)) here
      ]

  -- an element that has its stamp
  pub gathers-same : slice_index seen (get_or list index d).0 ≡ stamp → Gathers stamp room list (index + 1) old_seen old seen gathered
  gathers-same is = record {
    stamped = gathers.stamped;
    kept = gathers.kept;
    from = gathers.from;
    few = gathers.few;
    all = all-more gathered (λ w held. held) (gathers.stamped.held (get_or list index d) within is);
    size = gathers.size;
    seen_before = gathers.seen_before;
  }

  -- a new element
  pub gathers-more : slice_index seen (get_or list index d).0 ≢ stamp → length gathered < room
      → Gathers stamp room list (index + 1) old_seen old (set seen (get_or list index d).0 stamp) (gathered ++ get_or list index d ∷ [])
  gathers-more new some =
      let w : Item = get_or list index d in
      record {
        stamped = stamped-push stamp seen gathered gathers.stamped w within new;
        kept = λ v held. Contains-append_left gathered (w ∷ []) v (gathers.kept v held);
        from = λ v held. elim (Contains-push_cases gathered w v held) [
          | inl old ↦ gathers.from v old
          | inr same ↦ inr (subst (Contains list) same (Contains-get_or list index d below))
        ];
        few = omega (arith, length_push gathered w);
        all = all-more (gathered ++ w ∷ []) (λ v held. Contains-append_left gathered (w ∷ []) v held) (Contains-push gathered w);
        size = length-set seen w.0 stamp ∙ gathers.size;
        seen_before = λ n. elim (seen-set stamp seen gathered gathers.stamped w within new n) [
          | inl set ↦ inl set
          | inr same ↦ elim (gathers.seen_before n) [
            | inl set ↦ inl (same ∙ set)
            | inr before ↦ inr (same ∙ before)
          ]
        ];
      }

-- Sorted items that differ rise

pub rising_from_sorted : (items : List Item) → ((i j : ℕ) (d : Item) → i ≤ j → j < length items → (get_or items i d).0 ≤ (get_or items j d).0)
    → AllPairs (λ v w. v ≢ w) items → AreRising items
rising_from_sorted items sorted apart i j d less within =
    elim (cases_eq (get_or items i d).0 (get_or items j d).0) [
      | inl same ↦ absurd (apart i j d less within (Item-same _ _ same))
      | inr other ↦ omega (arith, sorted i j d (omega arith) within)
    ]

-- the ancestors of one of the items are among them
pub ancestor_within : (items : ℕ) (rows : List EdgeRow) → AreWithin items rows → (t : Item) (steps : List Item) (w : Item) → t.0 < items
    → IsWalk (links_of rows) t steps w → w.0 < items
ancestor_within items rows within t [] w inside same = subst (λ t. t.0 < items) same inside
ancestor_within items rows within t (next ∷ steps) w inside walk =
    let (row, held, same) = Contains-from link_of rows (record { child = t; parent = next }) walk.0 in
    let here : row.parent.0 < items = (All-contains (λ row. (row.child.0 < items) × (row.parent.0 < items)) rows row within held).1 in
    ancestor_within items rows within next steps w (subst (λ p. p.0 < items) (sym (ap (λ l. l.parent) same)) here) walk.1

-- so is what a list of ancestors holds
pub list_within : (items : ℕ) (rows : List EdgeRow) (parts : List Part) (lists : List Item) (t : Item) → AreWithin items rows
    → IsGathered (links_of rows) parts lists t → t.0 < items → All (λ w. w.0 < items) (list_in parts lists t.0)
list_within items rows parts lists t within gathered inside k d below =
    let w : Item = get_or (list_in parts lists t.0) k d in
    let up : IsAncestor (links_of rows) w t = (gathered.ancestors w).0 (Contains-get_or (list_in parts lists t.0) k d below) in
    ancestor_within items rows within t up.0 w inside up.1

-- In an order of different items

pub not_before : (order : List Item) (k : ℕ) (d : Item) → AllPairs (λ v w. v ≢ w) order → k < length order → Contains (take k order) (get_or order k d) → ⊥
not_before order k d once below (j, inside, is) =
    let lower : j < k = omega (arith, inside, length-take k order) in
    once j k (get_or order k d) lower below (sym (get_or-take k order j (get_or order k d) lower) ∙ is ∙ get_or_default order k d (get_or order k d) below)

-- no stamp is for the next item
pub stamps-new : (order : List Item) (k : ℕ) (d : Item) (seen : List ℕ) → AllPairs (λ v w. v ≢ w) order → k < length order → AreFor (take k order) seen
    → (n : ℕ) → slice_index seen n ≡ (get_or order k d).0 + 1 → ⊥
stamps-new order k d seen once below stamps n is =
    elim (stamps n) [
      | inl none ↦ omega (arith, none, is)
      | inr found ↦
          let (v, held, stamp) = found in
          let same : v.0 ≡ (get_or order k d).0 = omega (arith, stamp, is) in
          not_before order k d once below (subst (Contains (take k order)) (Item-same v (get_or order k d) same) held)
    ]

pub stamps-more : (items : List Item) (t : Item) (seen more : List ℕ) → AreFor items seen
    → ((n : ℕ) → (slice_index more n ≡ t.0 + 1) ⊎ (slice_index more n ≡ slice_index seen n)) → AreFor (items ++ t ∷ []) more
stamps-more items t seen more stamps changed n =
    elim (changed n) [
      | inl set ↦ inr (t, Contains-push items t, set)
      | inr same ↦ elim (stamps n) [
        | inl none ↦ inl (same ∙ none)
        | inr found ↦ let (v, held, stamp) = found in inr (v, Contains-append_left items (t ∷ []) v held, same ∙ stamp)
      ]
    ]
