-- A walk over all items: what entering an item and leaving it keep.
use Rattle.std.proofs.Common.{◌≡◌, ◌≢◌, ℕ, zero, suc, ◌+◌, ◌-◌, ◌≤◌, ◌<◌, ◌⊎◌, inl, inr, true, cond, List, [], ◌∷◌, ◌++◌, filter, length, get_or, set, refl, sym, ap, ◌∙◌, subst, arith, add-zero, count_by, nat_le}
use Rattle.std.specs.List.{All, Contains}
use Rattle.std.proofs.lemmas.List.{get_or_append_left, get_or_push, get_or_default, length_push, length-set, get_or-set_same, get_or-set_other, take-append-le, take_at, length-take, get_or-take}
use Rattle.std.proofs.lemmas.List.Elements.{Contains-get_or, Contains-append_left, Contains-push, Contains-push_cases, All-push, All-contains}
use Rattle.std.proofs.lemmas.List.Quantifiers.{all_pairs_push}
use Rattle.std.proofs.lemmas.List.Sums.{sum_by-set}
use Rattle.std.proofs.lemmas.Bool.{cases_lt, cases_eq, leb-true, le-leb}
use Rattle.mine_model.specs.declared.item.Item.{Item}
use Rattle.mine_model.specs.Hierarchy.{Link, PlacedLink, IsWalk, IsAncestor, HasCycle, IsAcyclic}
use Rattle.mine_model.proofs.ListLemmas.{Contains-by, Contains-from, Contains-filter, filter-Contains}
use Rattle.mine_model.proofs.AncestryLemmas.{Item-same}
use Rattle.mine_model.proofs.WalkLemmas.{IsWalk-join}
use Rattle.item_hierarchy.specs.declared.edges.EdgeRow.{EdgeRow}
use Rattle.item_hierarchy.specs.declared.walk.Mark.{Mark}
use Rattle.item_hierarchy.specs.declared.walk.Mark.TheVariants.{New, Open, Done}
use Rattle.item_hierarchy.specs.Edges.{link_of, placed_of}
use Rattle.item_hierarchy.specs.ByChild.{AreByChild}
use Rattle.item_hierarchy.specs.Walking.{links_upto, IsMarked, IsParentsFirst, IsWalking, HavePassed, is_new, steps_left, Walks}

-- Marks

pub marked_at : (marks : List Mark) (t : Item) (mark d : Mark) → t.0 < length marks → get_or marks t.0 d ≡ mark → IsMarked marks t mark
marked_at marks t mark d within is = (within, get_or_default marks t.0 mark d within ∙ is)

pub mark_of : (marks : List Mark) (t : Item) (mark d : Mark) → IsMarked marks t mark → get_or marks t.0 d ≡ mark
mark_of marks t mark d marked = get_or_default marks t.0 d mark marked.0 ∙ marked.1

pub one_mark : (marks : List Mark) (t : Item) (mark other : Mark) → IsMarked marks t mark → IsMarked marks t other → mark ≡ other
one_mark marks t mark other marked marked' = sym (mark_of marks t mark New marked) ∙ mark_of marks t other New marked'

pub new_not_open : New ≡ Open → ⊥
new_not_open e = cc

pub open_not_done : Open ≡ Done → ⊥
open_not_done e = cc

pub new_not_done : New ≡ Done → ⊥
new_not_done e = cc

module _ (marks : List Mark) (w : Item) (mark : Mark) where
  pub marked-same : w.0 < length marks → IsMarked (set marks w.0 mark) w mark
  marked-same within = (omega (arith, length-set marks w.0 mark), get_or-set_same marks w.0 mark mark within)

  pub marked-other : (t : Item) (other : Mark) → (t.0 ≢ w.0) → IsMarked marks t other → IsMarked (set marks w.0 mark) t other
  marked-other t other apart marked = (omega (arith, length-set marks w.0 mark, marked.0), get_or-set_other marks w.0 t.0 mark other apart ∙ marked.1)

  pub other-marked : (t : Item) (other : Mark) → (t.0 ≢ w.0) → IsMarked (set marks w.0 mark) t other → IsMarked marks t other
  other-marked t other apart marked = (omega (arith, length-set marks w.0 mark, marked.0), sym (get_or-set_other marks w.0 t.0 mark other apart) ∙ marked.1)

  -- what is marked so is the item set, or was so before
  pub set_or_before : (t : Item) (other : Mark) → IsMarked (set marks w.0 mark) t other → ((t ≡ w) × (mark ≡ other)) ⊎ IsMarked marks t other
  set_or_before t other marked =
      elim (cases_eq t.0 w.0) [
        | inl same ↦
            let within : w.0 < length marks = omega (arith, length-set marks w.0 mark, marked.0) in
            let is : IsMarked (set marks w.0 mark) w other = subst (λ t. IsMarked (set marks w.0 mark) t other) (Item-same t w same) marked in
            inl (Item-same t w same, one_mark (set marks w.0 mark) w mark other (marked-same within) is)
        | inr apart ↦ inr (other-marked t other apart marked)
      ]

  -- no more are new, where the mark that is set is another
  pub new_before : (mark ≡ New → ⊥) → (t : Item) → IsMarked (set marks w.0 mark) t New → IsMarked marks t New
  new_before other t marked =
      elim (set_or_before t New marked) [
        | inl set ↦ absurd (other set.1)
        | inr before ↦ before
      ]

-- items with different marks are different
pub apart_by_marks : (marks : List Mark) (t w : Item) (mark other : Mark) → (mark ≡ other → ⊥) → IsMarked marks t mark → IsMarked marks w other → (t.0 ≢ w.0)
apart_by_marks marks t w mark other differ marked marked' same =
    differ (one_mark marks t mark other marked (subst (λ t. IsMarked marks t other) (sym (Item-same t w same)) marked'))

-- Links of rows

module _ (line : ℕ) (rows : List EdgeRow) where
  pub linked_upto : (row : EdgeRow) → Contains rows row → row.line ≤ line → Contains (links_upto line rows) (link_of row)
  linked_upto row inside upto =
      let placed : EdgeRow → PlacedLink Item = λ row. record { link = link_of row; line = row.line } in
      Contains-by (λ p. p.link) (filter (λ p. nat_le p.line line) (placed_of rows)) (placed row)
      (filter-Contains (λ p. nat_le p.line line) (placed_of rows) (placed row) (Contains-by placed rows row inside) (le-leb row.line line upto))

  pub upto_linked : (link : Link Item) → Contains (links_upto line rows) link → (row : EdgeRow) × Contains rows row × (row.line ≤ line) × (link ≡ link_of row)
  upto_linked link inside =
      let placed : EdgeRow → PlacedLink Item = λ row. record { link = link_of row; line = row.line } in
      let (p, held, is) = Contains-from (λ p. p.link) (filter (λ p. nat_le p.line line) (placed_of rows)) link inside in
      let (held', passes) = Contains-filter (λ p. nat_le p.line line) (placed_of rows) p held in
      let (row, there, same) = Contains-from placed rows p held' in
      (row, there, leb-true row.line line (subst (λ p. nat_le p.line line ≡ true) same passes), is ∙ ap (λ p. p.link) same)

-- Entering, leaving, meeting a cycle

module _ (links : List (Link Item)) (items : ℕ) (marks : List Mark) (order : List Item) where
  pub walking-enter : (open_items : List Item) → IsWalking links items marks open_items order → (w : Item) → IsMarked marks w New
      → ((k : ℕ) (d : Item) → k + 1 ≡ length open_items → Contains links (record { child = get_or open_items k d; parent = w }))
      → IsWalking links items (set marks w.0 Open) (open_items ++ w ∷ []) order
  walking-enter open_items walking w new leads =
      let apart : (t : Item) (mark : Mark) → (New ≡ mark → ⊥) → IsMarked marks t mark → (t.0 ≢ w.0) =
      λ t mark differ marked. apart_by_marks marks t w mark New (λ same. differ (sym same)) marked new in
      record {
        size = length-set marks w.0 Open ∙ walking.size;
        are_open = All-push (λ t. IsMarked (set marks w.0 Open) t Open) open_items w
            (λ k d below. marked-other marks w Open (get_or open_items k d) Open (apart _ Open new_not_open (walking.are_open k d below)) (walking.are_open k d below))
            (marked-same marks w Open new.0);
        all_open = λ t marked. elim (set_or_before marks w Open t Open marked) [
          | inl is ↦ subst (Contains (open_items ++ w ∷ [])) (sym is.0) (Contains-push open_items w)
          | inr before ↦ Contains-append_left open_items (w ∷ []) t (walking.all_open t before)
        ];
        apart = all_pairs_push (λ t w. t ≢ w) open_items w walking.apart
            (λ k d below same. apart (get_or open_items k d) Open new_not_open (walking.are_open k d below) (ap (λ t. t.0) same));
        leads = λ k d below. elim (cases_lt (k + 1) (length open_items)) [
          | inl before ↦
              let first : get_or (open_items ++ w ∷ []) k d ≡ get_or open_items k d = get_or_append_left open_items (w ∷ []) d k (omega arith) in
              let second : get_or (open_items ++ w ∷ []) (k + 1) d ≡ get_or open_items (k + 1) d = get_or_append_left open_items (w ∷ []) d (k + 1) before in
              rw (first, second) (walking.leads k d before)
          | inr last ↦
              let is : k + 1 ≡ length open_items = omega (arith, length_push open_items w) in
              let first : get_or (open_items ++ w ∷ []) k d ≡ get_or open_items k d = get_or_append_left open_items (w ∷ []) d k (omega arith) in
              let second : get_or (open_items ++ w ∷ []) (k + 1) d ≡ w = get_or_push open_items w d (k + 1) (sym is) in
              rw (first, second) (leads k d is)
        ];
        are_done = λ k d below. marked-other marks w Open (get_or order k d) Done (apart _ Done new_not_done (walking.are_done k d below)) (walking.are_done k d below);
        all_done = λ t marked. elim (set_or_before marks w Open t Done marked) [
          | inl is ↦ absurd (open_not_done is.1)
          | inr before ↦ walking.all_done t before
        ];
        once = walking.once;
        first = walking.first;
      }

  module _ (rest : List Item) (top : Item) (walking : IsWalking links items marks (rest ++ top ∷ []) order) where
    pub top_open : IsMarked marks top Open
    top_open = All-contains (λ t. IsMarked marks t Open) (rest ++ top ∷ []) top walking.are_open (Contains-push rest top)

    rest_at : (k : ℕ) (d : Item) → k < length rest → get_or (rest ++ top ∷ []) k d ≡ get_or rest k d
    rest_at k d below = get_or_append_left rest (top ∷ []) d k below

    rest_open : (k : ℕ) (d : Item) → k < length rest → IsMarked marks (get_or rest k d) Open
    rest_open k d below = subst (λ t. IsMarked marks t Open) (rest_at k d below) (walking.are_open k d (omega (arith, length_push rest top)))

    rest_apart : (k : ℕ) (d : Item) → k < length rest → (get_or rest k d ≢ top)
    rest_apart k d below same =
        walking.apart k (length rest) d below (omega (arith, length_push rest top))
        (rest_at k d below ∙ same ∙ sym (get_or_push rest top d (length rest) refl))

    pub walking-leave : ((parent : Item) → Contains links (record { child = top; parent = parent }) → IsMarked marks parent Done)
        → IsWalking links items (set marks top.0 Done) rest (order ++ top ∷ [])
    walking-leave parents = record {
      size = length-set marks top.0 Done ∙ walking.size;
      are_open = λ k d below. marked-other marks top Done (get_or rest k d) Open (λ same. rest_apart k d below (Item-same _ top same)) (rest_open k d below);
      all_open = λ t marked. elim (set_or_before marks top Done t Open marked) [
        | inl is ↦ absurd (open_not_done (sym is.1))
        | inr before ↦ elim (Contains-push_cases rest top t (walking.all_open t before)) [
          | inl held ↦ held
          | inr last ↦ absurd (open_not_done (one_mark (set marks top.0 Done) t Open Done marked
              (subst (λ t. IsMarked (set marks top.0 Done) t Done) last (marked-same marks top Done top_open.0))))
        ]
      ];
      apart = λ i j d less below same. walking.apart i j d less (omega (arith, length_push rest top))
          (rest_at i d (omega arith) ∙ same ∙ sym (rest_at j d below));
      leads = λ k d below. rw (sym (rest_at k d (omega arith)), sym (rest_at (k + 1) d below)) (walking.leads k d (omega (arith, length_push rest top)));
      are_done = All-push (λ t. IsMarked (set marks top.0 Done) t Done) order top
          (λ k d below. marked-other marks top Done (get_or order k d) Done
          (apart_by_marks marks (get_or order k d) top Done Open (λ same. open_not_done (sym same)) (walking.are_done k d below) top_open) (walking.are_done k d below))
          (marked-same marks top Done top_open.0);
      all_done = λ t marked. elim (set_or_before marks top Done t Done marked) [
        | inl is ↦ subst (Contains (order ++ top ∷ [])) (sym is.0) (Contains-push order top)
        | inr before ↦ Contains-append_left order (top ∷ []) t (walking.all_done t before)
      ];
      once = all_pairs_push (λ t w. t ≢ w) order top walking.once
          (λ k d below same. apart_by_marks marks (get_or order k d) top Done Open (λ same. open_not_done (sym same)) (walking.are_done k d below) top_open (ap (λ t. t.0) same));
      first = λ k d parent below linked. elim (cases_lt k (length order)) [
        | inl before ↦
            let is : get_or (order ++ top ∷ []) k d ≡ get_or order k d = get_or_append_left order (top ∷ []) d k before in
            rw (take-append-le k order (top ∷ []) (omega arith))
            (walking.first k d parent before (subst (λ t. Contains links (record { child = t; parent = parent })) is linked))
        | inr last ↦
            let e : length order ≡ k = omega (arith, length_push order top) in
            let is : get_or (order ++ top ∷ []) k d ≡ top = get_or_push order top d k e in
            rw (take_at order (top ∷ []) k e)
            (walking.all_done parent (parents parent (subst (λ t. Contains links (record { child = t; parent = parent })) is linked)))
      ];
    }

    along : (n i : ℕ) (d : Item) → i + n < length (rest ++ top ∷ []) → IsAncestor links (get_or (rest ++ top ∷ []) (i + n) d) (get_or (rest ++ top ∷ []) i d)
    along zero i d below = ([], ap (λ k. get_or (rest ++ top ∷ []) k d) (sym (add-zero i)))
    along (suc n) i d below =
        let e : i + suc n ≡ (i + 1) + n = omega arith in
        let (steps, walk) = along n (i + 1) d (omega arith) in
        subst (λ k. IsAncestor links (get_or (rest ++ top ∷ []) k d) (get_or (rest ++ top ∷ []) i d)) (sym e)
        (get_or (rest ++ top ∷ []) (i + 1) d ∷ steps, (walking.leads i d (omega arith), walk))

    pub walking-cycle : (parent : Item) → Contains links (record { child = top; parent = parent }) → IsMarked marks parent Open → HasCycle links
    walking-cycle parent linked marked =
        let (i, below, is) = walking.all_open parent marked in
        let size : length (rest ++ top ∷ []) ≡ length rest + 1 = length_push rest top in
        let e : i + (length rest - i) ≡ length rest = omega arith in
        let up : IsAncestor links (get_or (rest ++ top ∷ []) (i + (length rest - i)) parent) (get_or (rest ++ top ∷ []) i parent) = along (length rest - i) i parent (omega arith) in
        let last : get_or (rest ++ top ∷ []) (i + (length rest - i)) parent ≡ top = ap (λ k. get_or (rest ++ top ∷ []) k parent) e ∙ get_or_push rest top parent (length rest) refl in
        let (steps, walk) = subst (λ w. IsAncestor links w parent) last (subst (λ t. IsAncestor links (get_or (rest ++ top ∷ []) (i + (length rest - i)) parent) t) is up) in
        (top, parent, steps, (linked, walk))

-- The rows that were passed

pub passed-marks : (items : ℕ) (starts : List ℕ) (rows : List EdgeRow) (line : ℕ) (marks others : List Mark) (next : List ℕ)
    → ((t : Item) → IsMarked marks t Done → IsMarked others t Done) → HavePassed items starts rows line marks next → HavePassed items starts rows line others next
passed-marks items starts rows line marks others next more passed n below =
    let (from, to, each) = passed n below in
    (from, to, λ k d start upto early. more (get_or rows k d).parent (each k d start upto early))

module _ (items : ℕ) (starts : List ℕ) (rows : List EdgeRow) (line : ℕ) (marks : List Mark) (next : List ℕ) (n at : ℕ)
    (size : length next ≡ items + 1) (inside : n < items) (passed : HavePassed items starts rows line marks next)
    (range : (get_or next n 0 ≤ at) × (at ≤ get_or starts (n + 1) 0))
    (more : (k : ℕ) (d : EdgeRow) → get_or next n 0 ≤ k → k < at → (get_or rows k d).line ≤ line → IsMarked marks (get_or rows k d).parent Done) where
  pub passed-here : (k : ℕ) (d : EdgeRow) → get_or starts n 0 ≤ k → k < at → (get_or rows k d).line ≤ line → IsMarked marks (get_or rows k d).parent Done
  passed-here k d start upto early =
      elim (cases_lt k (get_or next n 0)) [
        | inl before ↦ (passed n inside).2 k d start before early
        | inr behind ↦ more k d behind upto early
      ]

  pub passed-next : HavePassed items starts rows line marks (set next n at)
  passed-next m below =
      elim (cases_eq m n) [
        | inl same ↦
            let is : get_or (set next n at) m 0 ≡ at = ap (λ m. get_or (set next n at) m 0) same ∙ get_or-set_same next n at 0 (omega arith) in
            let P : ℕ → Type 0 = λ m. (get_or starts m 0 ≤ at) × (at ≤ get_or starts (m + 1) 0)
            × ((k : ℕ) (d : EdgeRow) → get_or starts m 0 ≤ k → k < at → (get_or rows k d).line ≤ line → IsMarked marks (get_or rows k d).parent Done) in
            rw is (subst P (sym same) (omega (arith, (passed n inside).0, range.0), range.1, passed-here))
        | inr apart ↦ rw (get_or-set_other next n m at 0 apart) (passed m below)
      ]

-- all parents are done where all rows of an item were passed
pub parents_done : (items : ℕ) (starts : List ℕ) (rows : List EdgeRow) (line : ℕ) (marks : List Mark) (t : Item) → AreByChild items starts rows
    → ((k : ℕ) (d : EdgeRow) → get_or starts t.0 0 ≤ k → k < get_or starts (t.0 + 1) 0 → (get_or rows k d).line ≤ line → IsMarked marks (get_or rows k d).parent Done)
    → (parent : Item) → Contains (links_upto line rows) (record { child = t; parent = parent }) → IsMarked marks parent Done
parents_done items starts rows line marks t sorted each parent linked =
    let (row, (k, below, is), early, same) = upto_linked line rows (record { child = t; parent = parent }) linked in
    let child : t.0 ≡ (get_or rows k row).child.0 = ap (λ l. l.child.0) same ∙ ap (λ r. r.child.0) (sym is) in
    let (start, upto) = sorted.all k row below in
    let done : IsMarked marks (get_or rows k row).parent Done =
    each k row (subst (λ n. get_or starts n 0 ≤ k) (sym child) start) (subst (λ n. k < get_or starts (n + 1) 0) (sym child) upto)
    (subst (λ r. r.line ≤ line) (sym is) early) in
    subst (λ p. IsMarked marks p Done) (ap (λ r. r.parent) is ∙ sym (ap (λ l. l.parent) same)) done

-- a row of the item is a link of it
pub row_linked : (items : ℕ) (starts : List ℕ) (rows : List EdgeRow) (line : ℕ) (t : Item) → AreByChild items starts rows → t.0 < items
    → (k : ℕ) (d : EdgeRow) → get_or starts t.0 0 ≤ k → k < get_or starts (t.0 + 1) 0 → (get_or rows k d).line ≤ line
    → Contains (links_upto line rows) (record { child = t; parent = (get_or rows k d).parent })
row_linked items starts rows line t sorted inside k d start upto early =
    let within : k < length rows = omega (arith, upto, sorted.within (t.0 + 1) (omega arith)) in
    let child : (get_or rows k d).child ≡ t = Item-same _ t (sorted.own t.0 k d inside start upto) in
    subst (λ t. Contains (links_upto line rows) (record { child = t; parent = (get_or rows k d).parent })) child
    (linked_upto line rows (get_or rows k d) (Contains-get_or rows k d within) early)

-- Steps

pub steps-enter : (marks : List Mark) (open_items : List Item) (w : Item) → IsMarked marks w New
    → steps_left (set marks w.0 Open) (open_items ++ w ∷ []) < steps_left marks open_items
steps-enter marks open_items w new =
    let counted : count_by is_new (set marks w.0 Open) + cond (is_new (get_or marks w.0 New)) 1 0 ≡ count_by is_new marks + 0 =
    sum_by-set (λ m. cond (is_new m) 1 0) marks w.0 Open New new.0 in
    let one : ◌≡◌ {A = ℕ} (cond (is_new (get_or marks w.0 New)) 1 0) 1 = ap (λ m. cond (is_new m) 1 0) new.1 in
    omega (arith, counted, one, length_push open_items w)

pub steps-leave : (marks : List Mark) (rest : List Item) (top : Item) → IsMarked marks top Open
    → steps_left (set marks top.0 Done) rest < steps_left marks (rest ++ top ∷ [])
steps-leave marks rest top open_now =
    let counted : count_by is_new (set marks top.0 Done) + cond (is_new (get_or marks top.0 Open)) 1 0 ≡ count_by is_new marks + 0 =
    sum_by-set (λ m. cond (is_new m) 1 0) marks top.0 Done Open open_now.0 in
    let none : ◌≡◌ {A = ℕ} (cond (is_new (get_or marks top.0 Open)) 1 0) 0 = ap (λ m. cond (is_new m) 1 0) open_now.1 in
    omega (arith, counted, none, length_push rest top)

-- The beginning and the end

mark_cases : (mark : Mark) → (mark ≡ New) ⊎ ((mark ≡ Open) ⊎ (mark ≡ Done))
mark_cases New = inl refl
mark_cases Open = inr (inl refl)
mark_cases Done = inr (inr refl)

-- where parents come first there is no cycle
module _ (links : List (Link Item)) (items : ℕ) (order : List Item) (first : IsParentsFirst links items order) (within : All (λ l. l.child.0 < items) links) where
  no_cycle_before : (n k : ℕ) (t next : Item) (steps : List Item) → k < n → k < length order → get_or order k t ≡ t
      → IsWalk links t (next ∷ steps) t → ⊥
  no_cycle_before zero k t next steps below inside is walk = omega arith
  no_cycle_before (suc n) k t next steps below inside is walk =
      let linked : Contains links (record { child = get_or order k t; parent = next }) = subst (λ c. Contains links (record { child = c; parent = next })) (sym is) walk.0 in
      let (j, less, is') = first.first k t next inside linked in
      let lower : j < k = omega (arith, length-take k order, less) in
      let at : get_or order j next ≡ next = sym (get_or-take k order j next lower) ∙ is' in
      let (more, rest, turned) = IsWalk-turned t next steps walk in
      no_cycle_before n j next more rest (omega arith) (omega arith) at turned
    where
      IsWalk-turned : (t next : Item) (steps : List Item) → IsWalk links t (next ∷ steps) t → (more : Item) × (rest : List Item) × IsWalk links next (more ∷ rest) next
      IsWalk-turned t next [] walk = (next, [], (subst (λ c. Contains links (record { child = c; parent = next })) (sym walk.1) walk.0, refl))
      IsWalk-turned t next (more ∷ rest) walk = (more, rest ++ next ∷ [], IsWalk-join links next (more ∷ rest) t (next ∷ []) next walk.1 (walk.0, refl))

  pub no_cycle : IsAcyclic links
  no_cycle (t, next, steps, walk) =
      let inside : t.0 < items = All-contains (λ l. l.child.0 < items) links (record { child = t; parent = next }) within walk.0 in
      let (k, below, is) = first.complete t inside in
      no_cycle_before (k + 1) k t next steps (omega arith) below is walk

-- One step

-- the last open item is one of the items
pub top_within : (starts : List ℕ) (rows : List EdgeRow) (line : ℕ) (marks : List Mark) (next : List ℕ) (open_items order : List Item) (top : Item)
    → Walks (length marks) starts rows line marks next (open_items ++ top ∷ []) order → top.0 < length marks
top_within starts rows line marks next open_items order top walks =
    (top_open (links_upto line rows) (length marks) marks order open_items top walks.walking).0

module _ (items : ℕ) (starts : List ℕ) (rows : List EdgeRow) (line : ℕ) (marks : List Mark) (next : List ℕ) (open_items : List Item) (order : List Item) where
  -- entering the first item
  pub walks-enter : Walks items starts rows line marks next [] order → (w : Item) → IsMarked marks w New
      → Walks items starts rows line (set marks w.0 Open) next (w ∷ []) order
  walks-enter walks w new = record {
    sorted = walks.sorted;
    within = walks.within;
    walking = walking-enter (links_upto line rows) items marks order [] walks.walking w new (λ k d none. absurd (omega arith));
    size = walks.size;
    passed = passed-marks items starts rows line marks (set marks w.0 Open) next
        (λ t marked. marked-other marks w Open t Done (apart_by_marks marks t w Done New (λ same. new_not_done (sym same)) marked new) marked) walks.passed;
  }

  module _ (top : Item) (at : ℕ) (walks : Walks items starts rows line marks next (open_items ++ top ∷ []) order)
      (range : (get_or next top.0 0 ≤ at) × (at ≤ get_or starts (top.0 + 1) 0))
      (more : (k : ℕ) (d : EdgeRow) → get_or next top.0 0 ≤ k → k < at → (get_or rows k d).line ≤ line → IsMarked marks (get_or rows k d).parent Done) where
    pub top_inside : top.0 < items
    top_inside = omega (arith, (top_open (links_upto line rows) items marks order open_items top walks.walking).0, walks.walking.size)

    next_passed : HavePassed items starts rows line marks (set next top.0 at)
    next_passed = passed-next items starts rows line marks next top.0 at walks.size top_inside walks.passed range more

    pub walks-leave : at ≡ get_or starts (top.0 + 1) 0 → Walks items starts rows line (set marks top.0 Done) (set next top.0 at) open_items (order ++ top ∷ [])
    walks-leave whole = record {
      sorted = walks.sorted;
      within = walks.within;
      walking = walking-leave (links_upto line rows) items marks order open_items top walks.walking
          (parents_done items starts rows line marks top walks.sorted
          (λ k d start upto early. passed-here items starts rows line marks next top.0 at walks.size top_inside walks.passed range more k d start (omega (arith, whole, upto)) early));
      size = length-set next top.0 at ∙ walks.size;
      passed = passed-marks items starts rows line marks (set marks top.0 Done) (set next top.0 at)
          (λ t marked. elim (cases_eq t.0 top.0) [
            | inl same ↦ subst (λ t. IsMarked (set marks top.0 Done) t Done) (sym (Item-same t top same))
                (marked-same marks top Done (top_open (links_upto line rows) items marks order open_items top walks.walking).0)
            | inr apart ↦ marked-other marks top Done t Done apart marked
          ]) next_passed;
    }

    module _ (d : EdgeRow) (behind : at < get_or starts (top.0 + 1) 0) (early : (get_or rows at d).line ≤ line) where
      pub parent_linked : Contains (links_upto line rows) (record { child = top; parent = (get_or rows at d).parent })
      parent_linked = row_linked items starts rows line top walks.sorted top_inside at d (omega (arith, (walks.passed top.0 top_inside).0, range.0)) behind early

      pub at_within : at < length rows
      at_within = omega (arith, behind, walks.sorted.within (top.0 + 1) (omega (arith, top_inside)))

      pub parent_within : (get_or rows at d).parent.0 < length marks
      parent_within = omega (arith, (walks.within at d at_within).1, walks.walking.size)

      pub walks-cycle : IsMarked marks (get_or rows at d).parent Open → HasCycle (links_upto line rows)
      walks-cycle marked = walking-cycle (links_upto line rows) items marks order open_items top walks.walking (get_or rows at d).parent parent_linked marked

      parent_new : (IsMarked marks (get_or rows at d).parent Open → ⊥) → (IsMarked marks (get_or rows at d).parent Done → ⊥) → IsMarked marks (get_or rows at d).parent New
      parent_new not_open not_done =
          elim (mark_cases (get_or marks (get_or rows at d).parent.0 New)) [
            | inl new ↦ (parent_within, new)
            | inr (inl open_now) ↦ absurd (not_open (marked_at marks (get_or rows at d).parent Open New parent_within open_now))
            | inr (inr done) ↦ absurd (not_done (marked_at marks (get_or rows at d).parent Done New parent_within done))
          ]

      pub walks-up : (IsMarked marks (get_or rows at d).parent Open → ⊥) → (IsMarked marks (get_or rows at d).parent Done → ⊥)
          → Walks items starts rows line (set marks (get_or rows at d).parent.0 Open) (set next top.0 at) ((open_items ++ top ∷ []) ++ (get_or rows at d).parent ∷ []) order
      walks-up not_open not_done = record {
        sorted = walks.sorted;
        within = walks.within;
        walking = walking-enter (links_upto line rows) items marks order (open_items ++ top ∷ []) walks.walking (get_or rows at d).parent (parent_new not_open not_done)
            (λ k e last. subst (λ t. Contains (links_upto line rows) (record { child = t; parent = (get_or rows at d).parent }))
            (sym (get_or_push open_items top e k (omega (arith, length_push open_items top)))) parent_linked);
        size = length-set next top.0 at ∙ walks.size;
        passed = passed-marks items starts rows line marks (set marks (get_or rows at d).parent.0 Open) (set next top.0 at)
            (λ t marked. marked-other marks (get_or rows at d).parent Open t Done
            (apart_by_marks marks t (get_or rows at d).parent Done New (λ same. new_not_done (sym same)) marked (parent_new not_open not_done)) marked) next_passed;
      }

      pub steps-up : (IsMarked marks (get_or rows at d).parent Open → ⊥) → (IsMarked marks (get_or rows at d).parent Done → ⊥)
          → steps_left (set marks (get_or rows at d).parent.0 Open) ((open_items ++ top ∷ []) ++ (get_or rows at d).parent ∷ []) < steps_left marks (open_items ++ top ∷ [])
      steps-up not_open not_done = steps-enter marks (open_items ++ top ∷ []) (get_or rows at d).parent (parent_new not_open not_done)
