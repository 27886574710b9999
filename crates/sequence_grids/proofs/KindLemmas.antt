-- What an item may do, found out state by state.
use Rattle.std.proofs.Common.{◌≡◌, ◌≢◌, ℕ, zero, suc, ◌+◌, ◌-◌, ◌<◌, ◌≤◌, ◌⊎◌, ◌↔◌, inl, inr, Bool, true, false, not, rules, List, [], ◌∷◌, ◌++◌, map, take, length, get_or, arith, refl, sym, ap, ◌∙◌, subst, Some, append_assoc, set, get_or-set_same, get_or-set_other}
use Rattle.std.specs.Bool.{IsTrue, ◌==◌}
use Rattle.std.specs.List.{All, AllPairs, AllByRecursion, Contains, slice_get, slice_index}
use Rattle.std.proofs.Math.ListN.{length-set}
use Rattle.std.proofs.Math.Seq.{get_or-append_seam}
use Rattle.std.proofs.lemmas.List.{get_or_append_left, append-nil, length-append, length-take, get_or-take, get_or_default, take_more, take_all}
use Rattle.std.proofs.lemmas.List.Elements.{All-from_recursion, Contains-get_or, Contains-append_cases, Contains-append_left, Contains-append_right}
use Rattle.std.proofs.lemmas.Option.{slice_get_within, get_or_from_slice_get, slice_get-get_or, slice_get_read, same_Some}
use Rattle.std.proofs.lemmas.Bool.{cases_lt, cases_eq}
use Rattle.std.proofs.lemmas.Bool.Decides.{Decides-eqb}
use Rattle.std.specs.List.Sorted.{IsPermutation, IsNonDecreasingBy}
use Rattle.std.proofs.lemmas.List.Sorted.{Contains-permutation, IsPermutation-sym}
use Rattle.mine_model.specs.declared.item.Item.{Item}
use Rattle.mine_model.specs.declared.expression.Leaf.{Leaf as ItemLeaf}
use Rattle.mine_model.specs.Expression.{Tree, leaf, cat, alt, rep, cap, named_by, named_in, unfolded_times}
use Rattle.mine_model.specs.Numbered.{leaf_of, tree_of}
use Rattle.mine_model.specs.Generation.{Matches, MayWrite, WritesAt}
use Rattle.mine_model.specs.Ranks.{HasRank}
use Rattle.mine_model.specs.Ancestry.{AreRising}
use Rattle.mine_model.proofs.ListLemmas.{AllPairs-append, Contains-cases, Contains-first, Contains-none, Contains-by, front_of_both, back_of_both, slice_range-append}
use Rattle.mine_model.proofs.AncestryLemmas.{Item-same, slice_range-behind}
use Rattle.mine_model.proofs.ElementLemmas.{get-left, stands_last}
use Rattle.mine_model.proofs.ApartLemmas.{apart_by_permutation}
use Rattle.fst_compile.specs.declared.edge.Label.{Label}
use Rattle.fst_compile.specs.Shape.{Entry, labels_of, unfold_tree}
use Rattle.fst_compile.specs.Transducer.{entry_of}
use Rattle.fst_compile.proofs.LabelLemmas.{copies_of, labels-repeated, copies_of-zero, copies_of-suc}
use Rattle.mining_job.specs.declared.bound.Bound.{Bound}
use Rattle.sequence_grids.specs.declared.columns.Columns.{Columns}
use Rattle.sequence_grids.specs.declared.kinds.Act.{Act}
use Rattle.sequence_grids.specs.declared.kinds.Kind.{Kind}
use Rattle.sequence_grids.specs.declared.kinds.Kinds.{Kinds}
use Rattle.mining_job.specs.Problems.{Problem, IsWhole}
use Rattle.sequence_grids.specs.Columns.{AreColumns}
use Rattle.sequence_grids.specs.Grids.{Reads, WritesRank}
use Rattle.sequence_grids.specs.Tables.{ClassSets, IsClassOf, LeadsInto, unknown}
use Rattle.sequence_grids.specs.Kinds.{IsNeededRank, Writes, Goes, Needs, IsTarget, IsClassFor, IsCell, IsRow, AreActs, IsAct, AreEntered, Extends, IsKind, HasKind, IsMet, AreKinds, KindsGrow, IsInside, AreRows, row_at}

-- ---- ranks

-- an item has one rank
pub rank_unique : (order : List Item) (v : Item) (a b : ℕ) → AllPairs (λ v w. v ≢ w) order → HasRank order v a → HasRank order v b → a ≡ b
rank_unique order v a b once first second =
    let at_a : get_or order (a - 1) v ≡ v = get_or_from_slice_get order (a - 1) v v first.place in
    let at_b : get_or order (b - 1) v ≡ v = get_or_from_slice_get order (b - 1) v v second.place in
    let in_a : a - 1 < length order = slice_get_within order (a - 1) v first.place in
    let in_b : b - 1 < length order = slice_get_within order (b - 1) v second.place in
    let a_least = first.least in
    let b_least = second.least in
    elim (cases_lt a b) [
      | inl below ↦ absurd (once (a - 1) (b - 1) v (omega arith) in_b (at_a ∙ sym at_b))
      | inr above ↦ elim (cases_eq a b) [
        | inl same ↦ same
        | inr other ↦ absurd (once (b - 1) (a - 1) v (omega arith) in_a (at_b ∙ sym at_a))
      ]
    ]

-- the item with a rank, where it has another one
pub record ArePushedSoFar (order : List Item) (top : ℕ) (items : List Item) (found : List ℕ) (index : ℕ) : Type 0 where
  pub exact : (rank : ℕ) → Contains found rank ↔ ((v : Item) × Contains (take index items) v × HasRank order v rank × (rank ≤ top))
  pub once : AllPairs (λ one other. one ≢ other) found

pub ArePushedSoFar-none : (order : List Item) (top : ℕ) (items : List Item) (found : List ℕ) → found ≡ [] → ArePushedSoFar order top items found 0
ArePushedSoFar-none order top items found none = record {
  exact = λ rank. (
    (λ held. absurd (Contains-none rank (subst (λ (xs : List ℕ). Contains xs rank) none held))),
    (λ h. let (v, inside, _, _) = h in absurd (Contains-none v inside)),
  );
  once = rw none (λ i j d less within. absurd (omega arith));
}

module _ (order : List Item) (top : ℕ) (items : List Item) (found : List ℕ) (index : ℕ) (item : Item) (so_far : ArePushedSoFar order top items found index)
    (inside : index < length items) (is : get_or items index item ≡ item) where
  now : take (index + 1) items ≡ take index items ++ item ∷ []
  now = take_more items index item inside ∙ ap (λ (x : Item). take index items ++ x ∷ []) is

  earlier : (v : Item) → Contains (take index items) v → Contains (take (index + 1) items) v
  earlier v held = subst (λ (xs : List Item). Contains xs v) (sym now) (Contains-append_left (take index items) (item ∷ []) v held)

  this : Contains (take (index + 1) items) item
  this = subst (λ (xs : List Item). Contains xs item) (sym now) (Contains-append_right (take index items) (item ∷ []) item (Contains-first item []))

  either : (v : Item) → Contains (take (index + 1) items) v → Contains (take index items) v ⊎ (v ≡ item)
  either v held = elim (Contains-append_cases (take index items) (item ∷ []) v (subst (λ (xs : List Item). Contains xs v) now held)) [
    | inl before ↦ inl before
    | inr last ↦ elim (Contains-cases item [] v last) [ inl same ↦ inr same | inr none ↦ absurd (Contains-none v none) ]
  ]

  pub ArePushedSoFar-skip : ((rank : ℕ) → HasRank order item rank → rank ≤ top → ⊥) → ArePushedSoFar order top items found (index + 1)
  ArePushedSoFar-skip not_here = record {
    exact = λ rank. (
      (λ held. let (v, before, has, low) = (so_far.exact rank).0 held in (v, earlier v before, has, low)),
      (λ h. let (v, held, has, low) = h in elim (either v held) [
        | inl before ↦ (so_far.exact rank).1 (v, before, has, low)
        | inr same ↦ absurd (not_here rank (subst (λ (x : Item). HasRank order x rank) same has) low)
      ]),
    );
    once = so_far.once;
  }

  -- an item that came before stands at another place, so it has another rank
  other_rank : AreRising items → (rank : ℕ) → HasRank order item rank → (r : ℕ) → Contains found r → r ≢ rank
  other_rank rising rank has r held same =
      let (v, (k, below, at_k), has', low) = (so_far.exact r).0 held in
      let both : Some v ≡ Some item = sym has'.place ∙ ap (λ (n : ℕ). slice_get order (n - 1)) same ∙ has.place in
      let one : v ≡ item = same_Some v item both in
      let short : k < index = omega (arith, below, length-take index items) in
      let here : get_or items k v ≡ v = sym (get_or-take index items k v short) ∙ at_k in
      let there : get_or items index v ≡ item = get_or_default items index v item inside ∙ is in
      let less : (get_or items k v).0 < (get_or items index v).0 = rising k index v short inside in
      let numbers : (get_or items k v).0 ≡ (get_or items index v).0 = ap (λ (x : Item). x.0) (here ∙ one ∙ sym there) in
      omega arith

  pub ArePushedSoFar-push : AllPairs (λ v w. v ≢ w) order → AreRising items → (rank : ℕ) → HasRank order item rank → rank ≤ top → ArePushedSoFar order top items (found ++ rank ∷ []) (index + 1)
  ArePushedSoFar-push once rising rank has low = record {
    once = AllPairs-append (λ one other. one ≢ other) found (rank ∷ []) so_far.once (λ i j d less within. absurd (omega arith))
        (λ r last held of_last. elim (Contains-cases rank [] last of_last) [
          | inl same ↦ (λ equal. other_rank rising rank has r held (equal ∙ same))
          | inr none ↦ absurd (Contains-none last none)
        ]);
    exact = λ r. (
      (λ held. elim (Contains-append_cases found (rank ∷ []) r held) [
        | inl old ↦ let (v, before, has', low') = (so_far.exact r).0 old in (v, earlier v before, has', low')
        | inr last ↦ elim (Contains-cases rank [] r last) [
          | inl same ↦ (item, this, subst (HasRank order item) (sym same) has, subst (λ (x : ℕ). x ≤ top) (sym same) low)
          | inr none ↦ absurd (Contains-none r none)
        ]
      ]),
      (λ h. let (v, held, has', low') = h in elim (either v held) [
        | inl before ↦ Contains-append_left found (rank ∷ []) r ((so_far.exact r).1 (v, before, has', low'))
        | inr same ↦
            let one : r ≡ rank = rank_unique order item r rank once (subst (λ (x : Item). HasRank order x r) same has') has in
            subst (λ (x : ℕ). Contains (found ++ rank ∷ []) x) (sym one) (Contains-append_right found (rank ∷ []) rank (Contains-first rank []))
      ]),
    );
  }

pub ArePushedSoFar-all : (order : List Item) (top : ℕ) (items : List Item) (found : List ℕ) (index : ℕ) → ArePushedSoFar order top items found index → length items ≤ index
    → (rank : ℕ) → Contains found rank ↔ ((v : Item) × Contains items v × HasRank order v rank × (rank ≤ top))
ArePushedSoFar-all order top items found index so_far over =
    subst (λ (xs : List Item). (rank : ℕ) → Contains found rank ↔ ((v : Item) × Contains xs v × HasRank order v rank × (rank ≤ top))) (take_all index items over) so_far.exact

-- what is held of the elements of a list is held of those of another order
pub held_by_sort : (before after : List ℕ) (P : ℕ → Type 0) → IsPermutation before after → ((n : ℕ) → Contains before n ↔ P n) → (n : ℕ) → Contains after n ↔ P n
held_by_sort before after P moved are n = (
  (λ held. (are n).0 (Contains-permutation after before n (IsPermutation-sym before after moved) held)),
  (λ is. Contains-permutation before after n moved ((are n).1 is)),
)

-- different numbers that were sorted rise
pub rising_by_sort : (before after : List ℕ) → AllPairs (λ one other. one ≢ other) before → IsPermutation before after → IsNonDecreasingBy (λ (n : ℕ). n) after
    → AllPairs (λ low high. low < high) after
rising_by_sort before after once moved sorted i j d less within =
    let apart = apart_by_permutation Decides-eqb before after moved once in
    elim (cases_eq (get_or after i d) (get_or after j d)) [
      | inl same ↦ absurd (apart i j d less within same)
      | inr other ↦ omega (arith, sorted i j d (omega arith) within)
    ]

-- rising numbers are different
pub once_by_rising : (xs : List ℕ) → AllPairs (λ low high. low < high) xs → AllPairs (λ one other. one ≢ other) xs
once_by_rising xs rising i j d less within same = let below = rising i j d less within in omega arith

-- ---- conditions

-- a list has an element where it is not empty
pub some_element : (xs : List ℕ) → (IsTrue (not (length xs == 0))) ↔ ((x : ℕ) × Contains xs x × Unit {0})
some_element [] = ((λ t. absurd (search rules)), (λ h. let (x, inside, _) = h in absurd (Contains-none x inside)))
some_element (x ∷ xs) = ((λ t. (x, Contains-first x xs, tt)), (λ h. search rules))

pub All-from_contains : (xs : List ℕ) (n : ℕ) → ((k : ℕ) → Contains xs k → k < n) → All (λ k. k < n) xs
All-from_contains xs n below i d inside = below (get_or xs i d) (Contains-get_or xs i d inside)

-- ---- the leaves of the labels name items of the hierarchy

Contains-copies : {X : Type 0} (n : ℕ) (xs : List X) (x : X) → Contains (copies_of n xs) x → Contains xs x
Contains-copies zero xs x held = absurd (Contains-none x (subst (λ ys. Contains ys x) (copies_of-zero xs) held))
Contains-copies (suc n) xs x held = elim (Contains-append_cases xs (copies_of n xs) x (subst (λ ys. Contains ys x) (copies_of-suc n xs) held)) [
  | inl here ↦ here
  | inr there ↦ Contains-copies n xs x there
]

module _ (P : Item → Type 0) where
  pub named_entries : (tree : Tree Item) (captured : Bool) → AllByRecursion P (named_in tree) → (entry : Entry) → Contains (labels_of (unfold_tree tree captured)) entry
      → AllByRecursion P (named_by entry.leaf)
  named_entries (leaf l) captured all entry held = elim (Contains-cases (record { leaf = l; captured = captured }) [] entry held) [
    | inl same ↦ subst (λ (e : Entry). AllByRecursion P (named_by e.leaf)) (sym same) all
    | inr none ↦ absurd (Contains-none entry none)
  ]
  named_entries (cat left right) captured all entry held =
      let l = front_of_both P (named_in left) (named_in right) all in
      let r = back_of_both P (named_in left) (named_in right) all in
      elim (Contains-append_cases (labels_of (unfold_tree left captured)) (labels_of (unfold_tree right captured)) entry held) [
        | inl first ↦ named_entries left captured l entry first
        | inr second ↦ named_entries right captured r entry second
      ]
  named_entries (alt left right) captured all entry held =
      let l = front_of_both P (named_in left) (named_in right) all in
      let r = back_of_both P (named_in left) (named_in right) all in
      elim (Contains-append_cases (labels_of (unfold_tree left captured)) (labels_of (unfold_tree right captured)) entry held) [
        | inl first ↦ named_entries left captured l entry first
        | inr second ↦ named_entries right captured r entry second
      ]
  named_entries (rep inner least most) captured all entry held =
      named_entries inner captured all entry
      (Contains-copies (unfolded_times least most) (labels_of (unfold_tree inner captured)) entry
      (subst (λ (es : List Entry). Contains es entry) (labels-repeated (unfold_tree inner captured) least most) held))
  named_entries (cap inner) captured all entry held = named_entries inner true all entry held

-- the leaf of a label names items of the hierarchy
pub named_label : (problem : Problem) → IsWhole problem → (k : ℕ) (label : Label) → slice_get problem.transducer.labels k ≡ Some label
    → All (λ w. w.0 < problem.hierarchy.items) (named_by (leaf_of label.leaf))
named_label problem whole k label found =
    let held : Contains (map entry_of problem.transducer.labels) (entry_of label) =
    Contains-by entry_of problem.transducer.labels label (k, slice_get_within problem.transducer.labels k label found, get_or_from_slice_get problem.transducer.labels k label label found) in
    let there : Contains (labels_of (unfold_tree (tree_of problem.transducer.expression) false)) (entry_of label) =
    subst (λ (es : List Entry). Contains es (entry_of label)) whole.automaton.labels held in
    All-from_recursion (λ w. w.0 < problem.hierarchy.items) (named_by (leaf_of label.leaf))
    (named_entries (λ w. w.0 < problem.hierarchy.items) (tree_of problem.transducer.expression) false whole.named (entry_of label) there)

-- ---- what edges into one state read and write

label_same : (label : Label) (read : ItemLeaf) (captured : Bool) → read ≡ label.leaf → captured ≡ label.captured → label ≡ record { leaf = read; captured = captured }
label_same label read captured first second = rw (first, second) refl

pub label_at : (labels : List Label) (k : ℕ) (read : ItemLeaf) (captured : Bool) → k < length labels
    → ((d : Label) → read ≡ (get_or labels k d).leaf) → ((d : Label) → captured ≡ (get_or labels k d).captured)
    → slice_get labels k ≡ Some (record { leaf = read; captured = captured })
label_at labels k read captured inside first second =
    let d : Label = record { leaf = read; captured = captured } in
    slice_get-get_or labels k d inside ∙ ap Some (label_same (get_or labels k d) read captured (first d) (second d))

pub nil-not-cons : (v : Item) (xs : List Item) → [] ≡ v ∷ xs → ⊥
nil-not-cons v xs e = let h : 0 ≡ suc (length xs) = ap length e in omega arith

module _ (problem : Problem) (bound : Bound) (t : Item) (k : ℕ) (read : ItemLeaf) where
  abbrev WithLabel : Bool → Type 0
  WithLabel captured = slice_get problem.transducer.labels (k - 1) ≡ Some (record { leaf = read; captured = captured })

  -- every reading is by the label
  by_label : (captured : Bool) (output : List Item) → WithLabel captured → Reads problem t k output
      → Matches problem.hierarchy.links (leaf_of read) t × WritesAt problem.hierarchy.links (leaf_of read) captured t output
  by_label captured output there (label, found, matches, writes) =
      let same : label ≡ record { leaf = read; captured = captured } = same_Some label (record { leaf = read; captured = captured }) (sym found ∙ there) in
      subst (λ (l : Label). Matches problem.hierarchy.links (leaf_of l.leaf) t × WritesAt problem.hierarchy.links (leaf_of l.leaf) l.captured t output) same (matches, writes)

  pub silent_reads : WithLabel false → Matches problem.hierarchy.links (leaf_of read) t ↔ Reads problem t k []
  silent_reads there = (
    (λ matches. (record { leaf = read; captured = false }, there, matches, refl)),
    (λ reads. (by_label false [] there reads).0),
  )

  pub captured_silent : WithLabel true → Reads problem t k [] → ⊥
  captured_silent there reads =
      let (v, may, same) = (by_label true [] there reads).1 in
      nil-not-cons v [] same

  pub silent_writes : WithLabel false → (rank : ℕ) → WritesRank problem bound t k rank → ⊥
  silent_writes there rank (v, has, low, reads) = nil-not-cons v [] (sym (by_label false (v ∷ []) there reads).1)

  pub captured_writes : WithLabel true → (written : List Item) (found : List ℕ)
      → ((v : Item) → Contains written v ↔ (Matches problem.hierarchy.links (leaf_of read) t × MayWrite problem.hierarchy.links (leaf_of read) t v))
      → ((rank : ℕ) → Contains found rank ↔ ((v : Item) × Contains written v × HasRank problem.ranking.order v rank × (rank ≤ bound.top)))
      → (rank : ℕ) → Contains found rank ↔ WritesRank problem bound t k rank
  captured_writes there written found are_written are_found rank = (
    (λ held.
        let (v, inside, has, low) = (are_found rank).0 held in
        let (matches, may) = (are_written v).0 inside in
        (v, has, low, (record { leaf = read; captured = true }, there, matches, (v, may, refl)))),
    (λ (v, has, low, reads).
        let (matches, (w, may, same)) = by_label true (v ∷ []) there reads in
        let one : v ≡ w = ap (λ (xs : List Item). get_or xs 0 v) same in
        (are_found rank).1 (v, (are_written v).1 (matches, subst (MayWrite problem.hierarchy.links (leaf_of read) t) (sym one) may), has, low)),
  )

-- ---- a row of outputs, column by column

module _ (problem : Problem) (bound : Bound) (t : Item) (base : ℕ) where
  module _ (ends more ranks others : List ℕ) (column : ℕ) (inside : IsInside ends ranks base column) where
    end_same : get_or (ends ++ more) (base + column + 1) 0 ≡ get_or ends (base + column + 1) 0
    end_same = get_or_append_left ends more 0 (base + column + 1) inside.room

    start_same : get_or (ends ++ more) (base + column) 0 ≡ get_or ends (base + column) 0
    start_same = let room = inside.room in get_or_append_left ends more 0 (base + column) (omega arith)

    -- the ranks of a column stay where more stands behind them
    pub row_at-grow : row_at (ends ++ more) (ranks ++ others) base column ≡ row_at ends ranks base column
    row_at-grow = rw (end_same, start_same) (slice_range-append ranks others (get_or ends (base + column) 0) (get_or ends (base + column + 1) 0) inside.forward inside.within)

    pub IsInside-grow : IsInside (ends ++ more) (ranks ++ others) base column
    IsInside-grow =
        let room = inside.room in
        let within = inside.within in
        record {
          room = omega (arith, length-append ends more);
          forward = rw (end_same, start_same) inside.forward;
          within = rw end_same (omega (arith, length-append ranks others));
        }

  pub IsCell-grow : (ends more ranks others : List ℕ) (column k : ℕ) → IsCell problem bound t base ends ranks column k
      → IsCell problem bound t base (ends ++ more) (ranks ++ others) column k
  IsCell-grow ends more ranks others column k cell = record {
    inside = IsInside-grow ends more ranks others column cell.inside;
    outputs = rw (row_at-grow ends more ranks others column cell.inside) cell.outputs;
    rising = rw (row_at-grow ends more ranks others column cell.inside) cell.rising;
  }

  pub IsRow-none : (heads ends ranks : List ℕ) (end : ℕ) → base ≡ length ends → end ≡ length ranks → IsRow problem bound t heads base (ends ++ end ∷ []) ranks 0
  IsRow-none heads ends ranks end here is = record {
    long = omega (arith, length-append ends (end ∷ []));
    last = let place : base + 0 ≡ length ends = omega arith in rw place (get_or-append_seam ends end [] 0 ∙ is);
    cells = λ column below. absurd (omega arith);
  }

  pub IsRow-more : (heads ends ranks found : List ℕ) (end column k : ℕ) → slice_index heads column ≡ k → IsRow problem bound t heads base ends ranks column → end ≡ length (ranks ++ found)
      → ((rank : ℕ) → Contains found rank ↔ WritesRank problem bound t k rank) → AllPairs (λ low high. low < high) found
      → IsRow problem bound t heads base (ends ++ end ∷ []) (ranks ++ found) (column + 1)
  IsRow-more heads ends ranks found end column k head row is are rising =
      let long = row.long in
      let at_end : get_or (ends ++ end ∷ []) (base + column + 1) 0 ≡ end = (let place : base + column + 1 ≡ length ends = omega arith in rw place (get_or-append_seam ends end [] 0)) in
      let before : get_or (ends ++ end ∷ []) (base + column) 0 ≡ length ranks = get_or_append_left ends (end ∷ []) 0 (base + column) (omega arith) ∙ row.last in
      let this : row_at (ends ++ end ∷ []) (ranks ++ found) base column ≡ found =
      rw (at_end, before, is) (slice_range-behind ranks found (length (ranks ++ found)) (length-append ranks found)) in
      record {
        long = omega (arith, length-append ends (end ∷ []));
        last = let place : base + (column + 1) ≡ base + column + 1 = omega arith in rw place (at_end ∙ is);
        cells = λ j below. elim (cases_eq j column) [
          | inl same ↦ rw (same, head) (record {
            inside = record {
              room = omega (arith, length-append ends (end ∷ []));
              forward = omega (arith, at_end, before, is, length-append ranks found);
              within = omega (arith, at_end, is);
            };
            outputs = rw this are;
            rising = rw this rising;
          })
          | inr other ↦ IsCell-grow ends (end ∷ []) ranks found j (slice_index heads j) (row.cells j (omega arith))
        ];
      }

-- ---- what columns do

pub AreActs-none : (problem : Problem) (bound : Bound) (t : Item) (heads : List ℕ) (acts : List Act) → acts ≡ [] → AreActs problem bound t heads acts 0
AreActs-none problem bound t heads acts none = record {
  long = ap length none;
  are = λ column act found. let inside : column < length acts = slice_get_within acts column act found in let zero_long : length acts ≡ 0 = ap length none in absurd (omega arith);
}

pub AreActs-more : (problem : Problem) (bound : Bound) (t : Item) (heads : List ℕ) (acts : List Act) (column k : ℕ) (act : Act) → slice_index heads column ≡ k
    → AreActs problem bound t heads acts column → IsAct problem bound t k act → AreActs problem bound t heads (acts ++ act ∷ []) (column + 1)
AreActs-more problem bound t heads acts column k act head so_far is =
    let long = so_far.long in
    record {
      long = omega (arith, length-append acts (act ∷ []));
      are = λ j that found. elim (cases_eq j column) [
        | inl same ↦
            let there : slice_get (acts ++ act ∷ []) j ≡ Some act = stands_last acts act j (omega arith) in
            let one : that ≡ act = same_Some that act (sym found ∙ there) in
            rw (one, same, head) is
        | inr other ↦
            let inside : j < length (acts ++ act ∷ []) = slice_get_within (acts ++ act ∷ []) j that found in
            let below : j < length acts = omega (arith, inside, length-append acts (act ∷ [])) in
            let is_that : get_or (acts ++ act ∷ []) j that ≡ that = get_or_from_slice_get (acts ++ act ∷ []) j that that found in
            so_far.are j that (slice_get_read acts (length acts) j that refl below (sym is_that ∙ get_or_append_left acts (act ∷ []) that j below))
      ];
    }

-- states that carry the same label read and write the same
pub Reads-alike : (problem : Problem) (t : Item) (one other : ℕ) (output : List Item) → slice_get problem.transducer.labels (one - 1) ≡ slice_get problem.transducer.labels (other - 1)
    → Reads problem t one output → Reads problem t other output
Reads-alike problem t one other output same (label, found, matches, writes) = (label, sym same ∙ found, matches, writes)

module _ (problem : Problem) (bound : Bound) (t : Item) (one other : ℕ) (same : slice_get problem.transducer.labels (one - 1) ≡ slice_get problem.transducer.labels (other - 1)) where
  pub Reads-both : (output : List Item) → Reads problem t one output ↔ Reads problem t other output
  Reads-both output = (Reads-alike problem t one other output same, Reads-alike problem t other one output (sym same))

  pub WritesRank-both : (rank : ℕ) → WritesRank problem bound t one rank ↔ WritesRank problem bound t other rank
  WritesRank-both rank = (
    (λ (v, has, low, reads). (v, has, low, (Reads-both (v ∷ [])).0 reads)),
    (λ (v, has, low, reads). (v, has, low, (Reads-both (v ∷ [])).1 reads)),
  )

  pub IsAct-alike : (act : Act) → IsAct problem bound t one act → IsAct problem bound t other act
  IsAct-alike act is = record {
    silent = ((λ holds. (Reads-both []).0 (is.silent.0 holds)), (λ reads. is.silent.1 ((Reads-both []).1 reads)));
    writes = (
      (λ holds. let (rank, w) = is.writes.0 holds in (rank, (WritesRank-both rank).0 w)),
      (λ (rank, w). is.writes.1 (rank, (WritesRank-both rank).1 w)),
    );
    needs = (
      (λ holds. let (rank, w, need) = is.needs.0 holds in (rank, (WritesRank-both rank).0 w, need)),
      (λ (rank, w, need). is.needs.1 (rank, (WritesRank-both rank).1 w, need)),
    );
  }

  pub IsCell-alike : (base : ℕ) (ends ranks : List ℕ) (column : ℕ) → IsCell problem bound t base ends ranks column one → IsCell problem bound t base ends ranks column other
  IsCell-alike base ends ranks column cell = record {
    inside = cell.inside;
    outputs = λ rank. ((λ held. (WritesRank-both rank).0 ((cell.outputs rank).0 held)), (λ writes. (cell.outputs rank).1 ((WritesRank-both rank).1 writes)));
    rising = cell.rising;
  }

pub entered_more : (P : ℕ → Type 0) (before after : List ℕ) (k : ℕ) (holds : Bool) → 1 ≤ k → ((j : ℕ) → Contains before j ↔ ((1 ≤ j) × (j < k) × P j))
    → ((j : ℕ) → Contains after j ↔ (Contains before j ⊎ ((j ≡ k) × IsTrue holds))) → IsTrue holds ↔ P k
    → (j : ℕ) → Contains after j ↔ ((1 ≤ j) × (j < k + 1) × P j)
entered_more P before after k holds some so_far step here j = (
  (λ held. elim ((step j).0 held) [
    | inl old ↦ let (least, below, is) = (so_far j).0 old in (least, omega arith, is)
    | inr (same, held_here) ↦ (omega arith, omega arith, subst P (sym same) (here.0 held_here))
  ]),
  (λ h. let (least, below, is) = h in elim (cases_eq j k) [
    | inl same ↦ (step j).1 (inr (same, here.1 (subst P same is)))
    | inr other ↦ (step j).1 (inl ((so_far j).1 (least, omega arith, is)))
  ]),
)

pub writes_holds : (problem : Problem) (bound : Bound) (t : Item) (k : ℕ) (any : Bool) (found : List ℕ)
    → ((rank : ℕ) → Contains found rank ↔ WritesRank problem bound t k rank) → IsTrue any ↔ ((rank : ℕ) × Contains found rank × Unit {0})
    → IsTrue any ↔ Writes problem bound t k
writes_holds problem bound t k any found writes some = (
  (λ a. let (rank, held, _) = some.0 a in (rank, (writes rank).0 held)),
  (λ (rank, w). some.1 (rank, (writes rank).1 w, tt)),
)

pub needs_holds : (problem : Problem) (bound : Bound) (t : Item) (k : ℕ) (needed : Bool) (found : List ℕ)
    → ((rank : ℕ) → Contains found rank ↔ WritesRank problem bound t k rank) → IsTrue needed ↔ ((rank : ℕ) × Contains found rank × IsNeededRank bound.need rank)
    → IsTrue needed ↔ Needs problem bound t k
needs_holds problem bound t k needed found writes some = (
  (λ needed_here. let (rank, held, is) = some.0 needed_here in (rank, (writes rank).0 held, is)),
  (λ h. let (rank, w, is) = h in some.1 (rank, (writes rank).1 w, is)),
)

-- ---- kinds that stay

pub Extends-nothing : {X : Type 0} (xs : List X) → Extends xs xs
Extends-nothing xs = ([], sym (append-nil xs))

pub Extends-twice : {X : Type 0} (xs ys zs : List X) → Extends xs ys → Extends ys zs → Extends xs zs
Extends-twice xs ys zs (more, e) (others, f) = (more ++ others, (rw (f, e) (append_assoc xs more others)))

pub IsKind-grow : (problem : Problem) (bound : Bound) (classes classes' : List ClassSets) (columns : Columns) (ends ends' ranks ranks' : List ℕ) (t : Item) (kind : Kind)
    → IsKind problem bound classes columns ends ranks t kind → Extends classes classes' → Extends ends ends' → Extends ranks ranks' → IsKind problem bound classes' columns ends' ranks' t kind
IsKind-grow problem bound classes classes' columns ends ends' ranks ranks' t kind is (more1, e1) (more2, e2) (more3, e3) =
    let room = is.room in
    rw (e1, e2, e3) (record {
      class = let (c, found, right) = is.class in (c, get-left classes more1 kind.class c found, right);
      room = omega (arith, room, length-append ends more2);
      rows = λ column below. IsInside-grow problem bound t kind.base ends more2 ranks more3 column (is.rows column below);
      cells = λ k target. IsCell-grow problem bound t kind.base ends more2 ranks more3 (slice_index columns.numbers.items k) k (is.cells k target);
    })

pub HasKind-grow : (problem : Problem) (bound : Bound) (classes classes' : List ClassSets) (kinds kinds' : Kinds) (t : Item) (number : ℕ)
    → HasKind problem bound classes kinds t number → Extends classes classes' → KindsGrow kinds kinds' → HasKind problem bound classes' kinds' t number
HasKind-grow problem bound classes classes' kinds kinds' t number (kind, found, is) grown grow = (
  kind,
  (let (more, e) = grow.kinds in rw e (get-left kinds.kinds.items more number kind found)),
  (rw grow.columns (IsKind-grow problem bound classes classes' kinds.columns kinds.ends.items kinds'.ends.items kinds.ranks.items kinds'.ranks.items t kind is grown grow.ends grow.ranks)),
)

pub AreKinds-grow : (problem : Problem) (bound : Bound) (classes classes' : List ClassSets) (kinds kinds' : Kinds) → AreKinds problem bound classes kinds
    → Extends classes classes' → KindsGrow kinds kinds' → kinds'.numbers.items ≡ kinds.numbers.items → AreKinds problem bound classes' kinds'
AreKinds-grow problem bound classes classes' kinds kinds' are grown grow same = record {
  columns_are = rw grow.columns are.columns_are;
  all = ap length same ∙ are.all;
  right = rw same (λ t inside some. HasKind-grow problem bound classes classes' kinds kinds' t (slice_index kinds.numbers.items t.0) (are.right t inside some) grown grow);
}

pub AreKinds-none : (problem : Problem) (bound : Bound) (classes : List ClassSets) (kinds : Kinds)
    → AreColumns problem.transducer.labels kinds.columns.numbers.items kinds.columns.heads.items → length kinds.numbers.items ≡ problem.hierarchy.items
    → ((k : ℕ) → k < length kinds.numbers.items → slice_index kinds.numbers.items k ≡ unknown) → AreKinds problem bound classes kinds
AreKinds-none problem bound classes kinds columns all none = record { columns_are = columns; all = all; right = λ t inside some. absurd (some (none t.0 inside)) }

-- the class of an item whose states were found
pub IsClassFor-of : (problem : Problem) (bound : Bound) (t : Item) (class : ClassSets) (silent writes needs : List ℕ) → IsClassOf class silent writes needs
    → AreEntered problem bound t (length problem.transducer.labels + 1) silent writes needs → IsClassFor problem bound t class
IsClassFor-of problem bound t class silent writes needs are entered = record {
  silent = λ k target. (
    (λ has. let (_, _, is) = (entered.silent_are k).0 ((are.silent_is k).0 has) in is),
    (λ is. (are.silent_is k).1 ((entered.silent_are k).1 (target.0, (let high = target.1 in omega arith), is))),
  );
  writes = λ k target. (
    (λ has. let (_, _, is) = (entered.writes_are k).0 ((are.writes_is k).0 has) in is),
    (λ is. (are.writes_is k).1 ((entered.writes_are k).1 (target.0, (let high = target.1 in omega arith), is))),
  );
  needs = λ k target. (
    (λ has. let (_, _, is) = (entered.needs_are k).0 ((are.needs_is k).0 has) in is),
    (λ is. (are.needs_is k).1 ((entered.needs_are k).1 (target.0, (let high = target.1 in omega arith), is))),
  );
}

-- the states that an item of the class leads into
pub LeadsInto-of : (problem : Problem) (bound : Bound) (t : Item) (class : ClassSets) (k : ℕ) → IsClassFor problem bound t class → IsTarget problem k → LeadsInto class k ↔ Goes problem bound t k
LeadsInto-of problem bound t class k is target = (
  (λ into. elim into [ inl silent ↦ inl ((is.silent k target).0 silent) | inr writes ↦ inr ((is.writes k target).0 writes) ]),
  (λ goes. elim goes [ inl reads ↦ inl ((is.silent k target).1 reads) | inr writes ↦ inr ((is.writes k target).1 writes) ]),
)

pub entered_below : (P : ℕ → Type 0) (list : List ℕ) (count states : ℕ) → ((k : ℕ) → Contains list k ↔ ((1 ≤ k) × (k < count) × P k)) → count ≡ states → All (λ k. k < states) list
entered_below P list count states are same = All-from_contains list states (λ k held. let (_, below, _) = (are k).0 held in omega arith)

pub IsKind-of : (problem : Problem) (bound : Bound) (classes : List ClassSets) (columns : Columns) (ends ranks : List ℕ) (t : Item) (kind : Kind) (base : ℕ) → kind.base ≡ base
    → AreColumns problem.transducer.labels columns.numbers.items columns.heads.items
    → IsRow problem bound t columns.heads.items base ends ranks (length columns.heads.items)
    → (c : ClassSets) → slice_get classes kind.class ≡ Some c → IsClassFor problem bound t c → IsKind problem bound classes columns ends ranks t kind
IsKind-of problem bound classes columns ends ranks t kind base same are row c found right = record {
  class = (c, found, right);
  room = let long = row.long in omega arith;
  rows = λ column below. rw same (row.cells column below).inside;
  cells = λ k target.
      let (below, alike) = are.numbers_are k target.0 target.1 in
      let column : ℕ = slice_index columns.numbers.items k in
      rw same (IsCell-alike problem bound t (slice_index columns.heads.items column) k alike base ends ranks column (row.cells column below));
}

-- the kind of one more item
pub AreKinds-more : (problem : Problem) (bound : Bound) (classes : List ClassSets) (kinds kinds' : Kinds) (t : Item) (number : ℕ) → AreKinds problem bound classes kinds
    → KindsGrow kinds kinds' → t.0 < length kinds.numbers.items → kinds'.numbers.items ≡ set kinds.numbers.items t.0 number → HasKind problem bound classes kinds' t number
    → AreKinds problem bound classes kinds'
AreKinds-more problem bound classes kinds kinds' t number are grow inside is has = record {
  columns_are = rw grow.columns are.columns_are;
  all = ap length is ∙ length-set kinds.numbers.items t.0 number ∙ are.all;
  right = rw is (λ u within some. elim (cases_eq u.0 t.0) [
    | inl same ↦
        let here : slice_index (set kinds.numbers.items t.0 number) u.0 ≡ number = ap (slice_index (set kinds.numbers.items t.0 number)) same ∙ get_or-set_same kinds.numbers.items t.0 number 0 inside in
        let this : u ≡ t = Item-same u t same in
        rw here (subst (λ (x : Item). HasKind problem bound classes kinds' x number) (sym this) has)
    | inr other ↦
        let there : slice_index (set kinds.numbers.items t.0 number) u.0 ≡ slice_index kinds.numbers.items u.0 = get_or-set_other kinds.numbers.items t.0 u.0 number 0 other in
        let old_some : slice_index kinds.numbers.items u.0 ≢ unknown = λ none. some (there ∙ none) in
        let within_old : u.0 < length kinds.numbers.items = omega (arith, within, length-set kinds.numbers.items t.0 number) in
        rw there (HasKind-grow problem bound classes classes kinds kinds' u (slice_index kinds.numbers.items u.0) (are.right u within_old old_some) (Extends-nothing classes) grow)
  ]);
}

pub KindsGrow-nothing : (kinds : Kinds) → KindsGrow kinds kinds
KindsGrow-nothing kinds = record { columns = refl; kinds = Extends-nothing kinds.kinds.items; ends = Extends-nothing kinds.ends.items; ranks = Extends-nothing kinds.ranks.items }

pub KindsGrow-twice : (a b c : Kinds) → KindsGrow a b → KindsGrow b c → KindsGrow a c
KindsGrow-twice a b c first second = record {
  columns = second.columns ∙ first.columns;
  kinds = Extends-twice a.kinds.items b.kinds.items c.kinds.items first.kinds second.kinds;
  ends = Extends-twice a.ends.items b.ends.items c.ends.items first.ends second.ends;
  ranks = Extends-twice a.ranks.items b.ranks.items c.ranks.items first.ranks second.ranks;
}

-- ---- kinds that are alike

-- a kind of the same class with the same outputs serves as well
pub IsKind-alike : (problem : Problem) (bound : Bound) (classes : List ClassSets) (columns : Columns) (ends ranks : List ℕ) (t : Item) (kind met : Kind)
    → AreColumns problem.transducer.labels columns.numbers.items columns.heads.items
    → IsKind problem bound classes columns ends ranks t kind → met.base + length columns.heads.items < length ends → AreRows ends ranks met.base (length columns.heads.items) → met.class ≡ kind.class
    → ((column : ℕ) → column < length columns.heads.items → row_at ends ranks kind.base column ≡ row_at ends ranks met.base column) → IsKind problem bound classes columns ends ranks t met
IsKind-alike problem bound classes columns ends ranks t kind met are is room rows class same = record {
  class = let (c, found, right) = is.class in (c, ap (slice_get classes) class ∙ found, right);
  room = room;
  rows = rows;
  cells = λ k target.
      let column : ℕ = slice_index columns.numbers.items k in
      let below = (are.numbers_are k target.0 target.1).0 in
      let row : row_at ends ranks kind.base column ≡ row_at ends ranks met.base column = same column below in
      record {
        inside = rows column below;
        outputs = λ rank. subst (λ (xs : List ℕ). Contains xs rank ↔ WritesRank problem bound t k rank) row ((is.cells k target).outputs rank);
        rising = subst (λ (xs : List ℕ). AllPairs (λ low high. low < high) xs) row (is.cells k target).rising;
      };
}

-- the kind of an item that has one
pub HasKind-at : (problem : Problem) (bound : Bound) (classes : List ClassSets) (kinds : Kinds) → AreKinds problem bound classes kinds
    → (i number : ℕ) → i < length kinds.numbers.items → number ≡ slice_index kinds.numbers.items i → number ≢ unknown
    → HasKind problem bound classes kinds (record { 0 = i }) number
HasKind-at problem bound classes kinds are i number inside is some = rw is (are.right (record { 0 = i }) inside (λ none. some (is ∙ none)))

-- ---- items that have a number

pub IsMet-set : (numbers : List ℕ) (i number : ℕ) → i < length numbers → number ≢ unknown → slice_index (set numbers i number) i ≢ unknown
IsMet-set numbers i number inside some none = some (sym (get_or-set_same numbers i number 0 inside) ∙ none)

pub IsMet-kept : (numbers : List ℕ) (i number : ℕ) → i < length numbers → number ≢ unknown → (j : ℕ) → slice_index numbers j ≢ unknown → slice_index (set numbers i number) j ≢ unknown
IsMet-kept numbers i number inside some j was none = elim (cases_eq j i) [
  | inl same ↦ IsMet-set numbers i number inside some (ap (slice_index (set numbers i number)) (sym same) ∙ none)
  | inr other ↦ was (sym (get_or-set_other numbers i j number 0 other) ∙ none)
]

-- one more of the items
pub AreMet-more : (kinds after : Kinds) (items : List Item) (index : ℕ) (d : Item) → ((u : Item) → Contains (take index items) u → IsMet kinds u)
    → ((u : Item) → IsMet kinds u → IsMet after u) → IsMet after (get_or items index d) → index < length items
    → (u : Item) → Contains (take (index + 1) items) u → IsMet after u
AreMet-more kinds after items index d met kept now inside u held =
    let t : Item = get_or items index d in
    let more : take (index + 1) items ≡ take index items ++ t ∷ [] = take_more items index d inside in
    elim (Contains-append_cases (take index items) (t ∷ []) u (subst (λ (xs : List Item). Contains xs u) more held)) [
      | inl before ↦ kept u (met u before)
      | inr last ↦ elim (Contains-cases t [] u last) [ inl same ↦ subst (IsMet after) (sym same) now | inr none ↦ absurd (Contains-none u none) ]
    ]
