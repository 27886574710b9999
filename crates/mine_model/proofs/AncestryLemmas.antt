-- What the lists of a hierarchy say is what its links say.
use Rattle.std.proofs.Common.{◌≡◌, ◌≢◌, ℕ, zero, suc, ◌+◌, ◌-◌, ◌≤◌, ◌<◌, ◌==◌, ◌⊎◌, inl, inr, true, false, not, List, [], ◌∷◌, ◌++◌, filter, length, get_or, drop, refl, sym, ap, ◌∙◌, subst, arith, eq-eqb, add-zero, zero-add}
use Rattle.std.specs.List.{slice_range, slice_index, All, Contains}
use Rattle.std.proofs.lemmas.List.{length_push, get_or_default, length-take}
use Rattle.std.proofs.lemmas.List.Elements.{Contains-append_left, Contains-append_right, Contains-append_cases}
use Rattle.std.proofs.lemmas.Bool.{cases_eq, cases_lt}
use Rattle.std.proofs.lemmas.Bool.Decides.{Decides-eqb}
use Rattle.flat_lists.specs.Cuts.{start_of, list_at}
use Rattle.flat_lists.proofs.CutLemmas.{slice_range-append, end_within, list_at-old, list_at-new, cut-more}
pub use Rattle.flat_lists.proofs.CutLemmas.{slice_range-behind}
use Rattle.mine_model.specs.declared.item.Item.{Item}
use Rattle.mine_model.specs.Hierarchy.{Link, IsWalk, IsAncestor}
use Rattle.mine_model.specs.Ancestry.{item_at, AreRising, Lists, AreAncestorLists, links_from_item, links_from_number}
use Rattle.mine_model.proofs.ListLemmas.{Contains-cases, Contains-first, Contains-none, Contains-by, Contains-from, Contains-filter, filter-Contains}

-- items with one number are one
pub Item-same : (t w : Item) → t.0 ≡ w.0 → t ≡ w
Item-same t w same = ap (λ number. item_at number) same

-- Links and lists

module _ (t : Item) (list : List Item) where
  pub linked_from_item : (w : Item) → Contains list w → (w.0 ≢ t.0) → Contains (links_from_item t list) (record { child = t; parent = w })
  linked_from_item w inside other =
      let made : Item → Link Item = λ w. record { child = t; parent = w } in
      Contains-by made (filter (λ w. not (w.0 == t.0)) list) w
      (filter-Contains (λ w. not (w.0 == t.0)) list w inside (not_same w other))
    where
      not_same : (w : Item) → (w.0 ≢ t.0) → not (w.0 == t.0) ≡ true
      not_same w other =
          elim (w.0 == t.0) as (λ b. ((w.0 == t.0) ≡ b) → not b ≡ true) [
            | true ↦ λ e. absurd (other ((Decides-eqb w.0 t.0).0 e))
            | false ↦ λ e. refl
          ] refl

  pub from_item : (link : Link Item) → Contains (links_from_item t list) link → (link.child ≡ t) × Contains list link.parent
  from_item link inside =
      let made : Item → Link Item = λ w. record { child = t; parent = w } in
      let (w, held, same) = Contains-from made (filter (λ w. not (w.0 == t.0)) list) link inside in
      (ap (λ l. l.child) same, subst (Contains list) (sym (ap (λ l. l.parent) same)) (Contains-filter (λ w. not (w.0 == t.0)) list w held).0)

module _ (lists : List Item) where
  -- the list at k, where the first of the ends that are left ends a list that begins at start
  part : ℕ → List ℕ → ℕ → List Item
  part start ends k = slice_range lists (get_or (start ∷ ends) k 0) (get_or ends k 0)

  pub linked_from_number : (number start : ℕ) (ends : List ℕ) (k : ℕ) (w : Item) → k < length ends
      → Contains (slice_range lists (get_or (start ∷ ends) k 0) (get_or ends k 0)) w → (w.0 ≢ number + k)
      → Contains (links_from_number number start ends lists) (record { child = item_at (number + k); parent = w })
  linked_from_number number start [] k w within inside other = absurd (omega arith)
  linked_from_number number start (end ∷ ends) zero w within inside other =
      rw (add-zero number) (Contains-append_left _ (links_from_number (number + 1) end ends lists) _
      (linked_from_item (item_at number) (slice_range lists start end) w inside (λ same. other (same ∙ sym (add-zero number)))))
  linked_from_number number start (end ∷ ends) (suc k) w within inside other =
      let e : number + suc k ≡ number + 1 + k = omega arith in
      rw e (Contains-append_right (links_from_item (item_at number) (slice_range lists start end)) _ _
      (linked_from_number (number + 1) end ends k w (omega arith) inside (λ same. other (same ∙ sym e))))

  pub from_number : (number start : ℕ) (ends : List ℕ) (link : Link Item) → Contains (links_from_number number start ends lists) link
      → (k : ℕ) × (k < length ends) × (link.child.0 ≡ number + k)
      × Contains (slice_range lists (get_or (start ∷ ends) k 0) (get_or ends k 0)) link.parent
  from_number number start [] link inside = absurd (Contains-none link inside)
  from_number number start (end ∷ ends) link inside =
      elim (Contains-append_cases (links_from_item (item_at number) (slice_range lists start end)) (links_from_number (number + 1) end ends lists) link inside) [
        | inl here ↦
            let made = from_item (item_at number) (slice_range lists start end) link here in
            (0, omega arith, ap (λ t. t.0) made.0 ∙ sym (add-zero number), made.1)
        | inr later ↦
            let (k, below, child, held) = from_number (number + 1) end ends link later in
            (suc k, omega arith, omega (arith, child), held)
      ]

module _ (ends : List ℕ) (lists : List Item) where
  links : List (Link Item)
  links = links_from_number 0 0 ends lists

  pub listed_from_link : (link : Link Item) → Contains (links_from_number 0 0 ends lists) link → Lists ends lists link.child link.parent
  listed_from_link link inside =
      let (k, below, child, held) = from_number lists 0 0 ends link inside in
      let e : link.child.0 ≡ k = omega (arith, child) in
      (omega (arith, e), subst (λ n. Contains (list_at ends lists n) link.parent) (sym e) held)

  pub link_from_listed : (t w : Item) → Lists ends lists t w → (w.0 ≢ t.0) → Contains (links_from_number 0 0 ends lists) (record { child = t; parent = w })
  link_from_listed t w listed other =
      let e : 0 + t.0 ≡ t.0 = zero-add t.0 in
      subst (λ n. Contains (links_from_number 0 0 ends lists) (record { child = item_at n; parent = w })) e
      (linked_from_number lists 0 0 ends t.0 w listed.0 listed.1 (λ same. other (same ∙ e)))

  module _ (are : AreAncestorLists ends lists) where
    pub itself : (t : Item) → t.0 < length ends → Lists ends lists t t
    itself t within = are.itself t.0 within

    pub listed_from_walk : (t : Item) (steps : List Item) (w : Item) → t.0 < length ends → IsWalk (links_from_number 0 0 ends lists) t steps w → Lists ends lists t w
    listed_from_walk t [] w within same = subst (Lists ends lists t) same (itself t within)
    listed_from_walk t (next ∷ steps) w within walk =
        let first : Lists ends lists t next = listed_from_link (record { child = t; parent = next }) walk.0 in
        are.closed t next w first (listed_from_walk next steps w (are.within t next first) walk.1)

    pub walk_from_listed : (t w : Item) → Lists ends lists t w → IsAncestor (links_from_number 0 0 ends lists) w t
    walk_from_listed t w listed =
        elim (cases_eq t.0 w.0) [
          | inl same ↦ ([], Item-same t w same)
          | inr other ↦ (w ∷ [], (link_from_listed t w listed (λ same. other (sym same)), refl))
        ]

    -- above an item that is none of them stands nothing else
    pub walk_from_other : (t w : Item) → IsAncestor (links_from_number 0 0 ends lists) w t → (length ends ≤ t.0) → t ≡ w
    walk_from_other t w ([], same) beyond = same
    walk_from_other t w (next ∷ steps, walk) beyond =
        let first : Lists ends lists t next = listed_from_link (record { child = t; parent = next }) walk.0 in
        absurd (omega (arith, first.0))

    pub apart_by_links : (t w : Item) → IsAncestor (links_from_number 0 0 ends lists) w t → IsAncestor (links_from_number 0 0 ends lists) t w → w ≡ t
    apart_by_links t w up down =
        elim (cases_lt t.0 (length ends)) [
          | inl within ↦
              let there : Lists ends lists t w = listed_from_walk t up.0 w within up.1 in
              are.apart t w there (listed_from_walk w down.0 t (are.within t w there) down.1)
          | inr beyond ↦ sym (walk_from_other t w up beyond)
        ]

    pub links_within : All (λ link. (link.child.0 < length ends) × (link.parent.0 < length ends)) (links_from_number 0 0 ends lists)
    links_within k d below =
        let link : Link Item = get_or (links_from_number 0 0 ends lists) k d in
        let listed : Lists ends lists link.child link.parent = listed_from_link link (k, below, get_or_default (links_from_number 0 0 ends lists) k link d below) in
        (listed.0, are.within link.child link.parent listed)

    pub items_few : (n : ℕ) → n ≤ length ends → n ≤ start_of ends n
    items_few zero below = omega arith
    items_few (suc n) below =
        let before : n ≤ start_of ends n = items_few n (omega arith) in
        let (k, held, is) = (are.itself n (omega arith)).1 in
        let size : k < slice_index ends n - start_of ends n = omega (arith, held, length-take (slice_index ends n - start_of ends n) (drop (start_of ends n) lists)) in
        omega (arith, before, size)

    pub items_le_lists : length ends ≤ length lists
    items_le_lists = omega (arith, items_few (length ends) (omega arith), are.cut.whole)

-- One more item, with itself alone in its list

pub links_from_number-more : (lists : List Item) (x : Item) (number start : ℕ) (ends : List ℕ)
    → ((k : ℕ) → k < length ends → (get_or (start ∷ ends) k 0 ≤ get_or ends k 0) × (get_or ends k 0 ≤ length lists))
    → get_or (start ∷ ends) (length ends) 0 ≡ length lists → x.0 ≡ number + length ends
    → links_from_number number start (ends ++ (length lists + 1) ∷ []) (lists ++ x ∷ []) ≡ links_from_number number start ends lists
links_from_number-more lists x number start [] cut whole is =
    rw whole (rw (slice_range-behind lists (x ∷ []) (length lists + 1) refl) (
    let same : (x.0 == number) ≡ true = eq-eqb x.0 number (omega (arith, is)) in
    rw same refl))
links_from_number-more lists x number start (end ∷ ends) cut whole is =
    let here : slice_range (lists ++ x ∷ []) start end ≡ slice_range lists start end =
    slice_range-append lists (x ∷ []) start end (cut 0 (omega arith)).0 (cut 0 (omega arith)).1 in
    let rest : links_from_number (number + 1) end (ends ++ (length lists + 1) ∷ []) (lists ++ x ∷ []) ≡ links_from_number (number + 1) end ends lists =
    links_from_number-more lists x (number + 1) end ends (λ k below. cut (suc k) (omega arith)) whole (omega (arith, is)) in
    ap (λ list. links_from_item (item_at number) list ++ links_from_number (number + 1) end (ends ++ (length lists + 1) ∷ []) (lists ++ x ∷ [])) here
    ∙ ap (λ links. links_from_item (item_at number) (slice_range lists start end) ++ links) rest

module _ (ends : List ℕ) (lists : List Item) (are : AreAncestorLists ends lists) where
  pub links-more : links_from_number 0 0 (ends ++ (length lists + 1) ∷ []) (lists ++ item_at (length ends) ∷ []) ≡ links_from_number 0 0 ends lists
  links-more = links_from_number-more lists (item_at (length ends)) 0 0 ends
      (λ k below. (are.cut.forward k below, end_within ends (length lists) are.cut k below)) are.cut.whole (sym (zero-add (length ends)))

  list_at-more : (n : ℕ) → n < length ends → list_at (ends ++ (length lists + 1) ∷ []) (lists ++ item_at (length ends) ∷ []) n ≡ list_at ends lists n
  list_at-more = list_at-old ends lists (item_at (length ends) ∷ []) (length lists + 1) refl are.cut

  list_at-last : list_at (ends ++ (length lists + 1) ∷ []) (lists ++ item_at (length ends) ∷ []) (length ends) ≡ item_at (length ends) ∷ []
  list_at-last = list_at-new ends lists (item_at (length ends) ∷ []) (length lists + 1) refl are.cut

  more_length : length (ends ++ (length lists + 1) ∷ []) ≡ length ends + 1
  more_length = length_push ends (length lists + 1)

  -- one of the old items or the new one
  old_or_last : (n : ℕ) → n < length (ends ++ (length lists + 1) ∷ []) → (n < length ends) ⊎ (n ≡ length ends)
  old_or_last n below =
      elim (cases_lt n (length ends)) [
        | inl old ↦ inl old
        | inr beyond ↦ inr (omega (arith, more_length))
      ]

  listed-old : (t w : Item) → Lists ends lists t w → Lists (ends ++ (length lists + 1) ∷ []) (lists ++ item_at (length ends) ∷ []) t w
  listed-old t w listed = (omega (arith, more_length, listed.0), subst (λ list. Contains list w) (sym (list_at-more t.0 listed.0)) listed.1)

  listed-new : (t w : Item) → Lists (ends ++ (length lists + 1) ∷ []) (lists ++ item_at (length ends) ∷ []) t w
      → Lists ends lists t w ⊎ ((t.0 ≡ length ends) × (w.0 ≡ length ends))
  listed-new t w listed =
      elim (old_or_last t.0 listed.0) [
        | inl old ↦ inl (old, subst (λ list. Contains list w) (list_at-more t.0 old) listed.1)
        | inr last ↦
            let held : Contains (item_at (length ends) ∷ []) w = subst (λ list. Contains list w) (ap (list_at (ends ++ (length lists + 1) ∷ []) (lists ++ item_at (length ends) ∷ [])) last ∙ list_at-last) listed.1 in
            elim (Contains-cases (item_at (length ends)) [] w held) [
              | inl same ↦ inr (last, ap (λ t. t.0) same)
              | inr none ↦ absurd (Contains-none w none)
            ]
      ]

  listed-last : (t w : Item) → t.0 ≡ length ends → w.0 ≡ length ends → Lists (ends ++ (length lists + 1) ∷ []) (lists ++ item_at (length ends) ∷ []) t w
  listed-last t w is is' = (
    omega (arith, more_length, is),
    subst (λ n. Contains (list_at (ends ++ (length lists + 1) ∷ []) (lists ++ item_at (length ends) ∷ []) n) w) (sym is)
        (subst (λ list. Contains list w) (sym list_at-last) (subst (Contains (item_at (length ends) ∷ [])) (Item-same (item_at (length ends)) w (sym is')) (Contains-first (item_at (length ends)) []))),
  )

  pub lists-more : AreAncestorLists (ends ++ (length lists + 1) ∷ []) (lists ++ item_at (length ends) ∷ [])
  lists-more = record {
    cut = cut-more ends lists (item_at (length ends) ∷ []) (length lists + 1) refl are.cut;
    rising = λ n below. elim (old_or_last n below) [
      | inl old ↦ subst AreRising (sym (list_at-more n old)) (are.rising n old)
      | inr last ↦ subst AreRising (sym (ap (list_at (ends ++ (length lists + 1) ∷ []) (lists ++ item_at (length ends) ∷ [])) last ∙ list_at-last)) (λ i j d lt within. absurd (omega arith))
    ];
    itself = λ n below. elim (old_or_last n below) [
      | inl old ↦ listed-old (item_at n) (item_at n) (are.itself n old)
      | inr last ↦ listed-last (item_at n) (item_at n) last last
    ];
    within = λ t w listed. elim (listed-new t w listed) [
      | inl old ↦ omega (arith, more_length, are.within t w old)
      | inr last ↦ omega (arith, more_length, last.1)
    ];
    closed = λ t v w first second. elim (listed-new t v first) [
      | inl old ↦ elim (listed-new v w second) [
        | inl older ↦ listed-old t w (are.closed t v w old older)
        | inr last ↦ absurd (omega (arith, are.within t v old, last.0))
      ]
      | inr last ↦ elim (listed-new v w second) [
        | inl older ↦ absurd (omega (arith, older.0, last.1))
        | inr last' ↦ listed-last t w last.0 last'.1
      ]
    ];
    apart = λ t w up down. elim (listed-new t w up) [
      | inl old ↦ elim (listed-new w t down) [
        | inl older ↦ are.apart t w old older
        | inr last ↦ absurd (omega (arith, old.0, last.1))
      ]
      | inr last ↦ Item-same w t (last.1 ∙ sym last.0)
    ];
  }

-- In a rising list

module _ (list : List Item) (w : ℕ) (rising : AreRising list) where
  pub RisesBefore : (m k : ℕ) (d : Item) → k ≤ m → m < length list → (get_or list m (record { 0 = 0 })).0 < w → (get_or list k d).0 < w
  RisesBefore m k d upto within less =
      let read : (get_or list m (record { 0 = 0 })).0 ≡ (get_or list m d).0 = ap (λ t. t.0) (get_or_default list m (record { 0 = 0 }) d within) in
      elim (cases_eq k m) [
        | inl same ↦ subst (λ n. (get_or list n d).0 < w) (sym same) (omega (arith, read, less))
        | inr other ↦ omega (arith, read, less, rising k m d (omega arith) within)
      ]

  pub RisesBehind : (m k : ℕ) (d : Item) → m ≤ k → k < length list → w < (get_or list m (record { 0 = 0 })).0 → w < (get_or list k d).0
  RisesBehind m k d from within more =
      let read : (get_or list m (record { 0 = 0 })).0 ≡ (get_or list m d).0 = ap (λ t. t.0) (get_or_default list m (record { 0 = 0 }) d (omega arith)) in
      elim (cases_eq k m) [
        | inl same ↦ subst (λ n. w < (get_or list n d).0) (sym same) (omega (arith, read, more))
        | inr other ↦ omega (arith, read, more, rising m k d (omega arith) within)
      ]

-- A list as it is read

pub list_read : (ends : List ℕ) (lists read : List Item) (start end number : ℕ) → start ≡ start_of ends number
    → end ≡ slice_index ends number → read ≡ lists → slice_range read start end ≡ list_at ends lists number
list_read ends lists read start end number starts stops same =
    ap (λ from. slice_range read from end) starts ∙ ap (slice_range read (start_of ends number)) stops
    ∙ ap (λ items. slice_range items (start_of ends number) (slice_index ends number)) same

pub members_within : (ends : List ℕ) (lists : List Item) → AreAncestorLists ends lists → (t : Item) → t.0 < length ends
    → All (λ w. w.0 < length ends) (list_at ends lists t.0)
members_within ends lists are t within k d below =
    let w : Item = get_or (list_at ends lists t.0) k d in
    are.within t w (within, (k, below, get_or_default (list_at ends lists t.0) k w d below))
