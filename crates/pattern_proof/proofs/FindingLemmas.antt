-- What a path that writes a pattern is made of, step by step.
use Rattle.std.proofs.Common.{◌≡◌, ℕ, ◌+◌, ◌*◌, ◌/◌, ◌%◌, ◌<◌, ◌≤◌, ◌⊎◌, ◌↔◌, inl, inr, true, false, Bool, List, [], ◌∷◌, ◌++◌, length, drop, get_or, Some, refl, sym, ap, ◌∙◌, subst, arith, Contains, length-append, length-drop, Option, None, MatchOption, is_some, true≢false}
use Rattle.std.proofs.lemmas.Bool.{cases_eq}
use Rattle.std.proofs.lemmas.List.{drop_more, drop_all}
use Rattle.std.proofs.lemmas.Nat.{div-mul-add, mod-mul-add, div-add-mod'}
use Rattle.std.proofs.Math.Nat.{mul-le-mul_right, div-lt_iff_lt-mul}
use Rattle.std.specs.List.{slice_get}
use Rattle.std.proofs.lemmas.Option.{slice_get-get_or, slice_get_within, get_or_from_slice_get}
use Rattle.state_bits.specs.Members.{Has, HasBit}
use Rattle.mine_model.specs.declared.item.Item.{Item}
use Rattle.mine_model.specs.Hierarchy.{Link}
use Rattle.mine_model.specs.Numbered.{leaf_of}
use Rattle.mine_model.specs.Generation.{WritesAt}
use Rattle.fst_compile.specs.declared.edge.Edge.{Edge}
use Rattle.fst_compile.specs.Transducer.{Transducer, edges_from}
use Rattle.pattern_proof.specs.Steps.{IsRun}
use Rattle.pattern_proof.specs.Finding.{Question, silents_of, IsPlace, CanEnd, LeadsOn, Passes, bit_of, bits_of, IsRightAt, IsOfEnd, EndFrom}

-- a run writes no more than it reads
pub run-shorter : (links : List (Link Item)) (transducer : Transducer) (state : ℕ) (states : List ℕ) (items output : List Item) → IsRun links transducer state states items output → length output ≤ length items
run-shorter links transducer state [] [] output run = omega (arith, ap length run.1)
run-shorter links transducer state [] (t ∷ items) output run = absurd run
run-shorter links transducer state (next ∷ states) [] output run = absurd run
run-shorter links transducer state (next ∷ states) (t ∷ items) output (edge, here, there, held, is, reads, writes, both, run) =
    let rest = run-shorter links transducer next states items there run in
    let few = at-most-one edge.captured here writes in
    omega (arith, rest, few, ap length both, length-append here there)
  where
    at-most-one : (captured : Bool) (here : List Item) → WritesAt links (leaf_of edge.leaf) captured t here → length here ≤ 1
    at-most-one true here (v, may, one) = omega (arith, ap length one)
    at-most-one false here none = omega (arith, ap length none)

-- ---- elements of lists

pub drop-got : {X : Type 0} (xs : List X) (i : ℕ) (x : X) → slice_get xs i ≡ Some x → drop i xs ≡ x ∷ drop (i + 1) xs
drop-got xs i x found =
    let within = slice_get_within xs i x found in
    drop_more xs i x within ∙ ap (λ y. y ∷ drop (i + 1) xs) (get_or_from_slice_get xs i x x found)

got-drop : {X : Type 0} (xs : List X) (i : ℕ) (x : X) (rest : List X) → drop i xs ≡ x ∷ rest → (slice_get xs i ≡ Some x) × (drop (i + 1) xs ≡ rest)
got-drop xs i x rest cut =
    let long = ap length cut in
    let within : i < length xs = omega (arith, long, length-drop i xs) in
    let found = slice_get-get_or xs i x within in
    let both : get_or xs i x ∷ drop (i + 1) xs ≡ x ∷ rest = sym (drop-got xs i (get_or xs i x) found) ∙ cut in
    let head : get_or xs i x ≡ x = cc in
    (found ∙ ap Some head, (cc))

-- ---- bits of places

module _ (q : Question) where
  abbrev width : ℕ
  width = length q.transducer.labels + 1

  abbrev row : ℕ
  row = silents_of q + 1

  abbrev cell : ℕ → ℕ → ℕ
  cell silent written = written * row + silent

  -- a bit is one of one state at one place alone
  pub same-place : (s w k s' w' k' : ℕ) → IsPlace q s w → IsPlace q s' w' → k < width → k' < width → bit_of q s w k ≡ bit_of q s' w' k' → (s ≡ s') × (w ≡ w') × (k ≡ k')
  same-place s w k s' w' k' here there within within' same =
      let cells : cell s w ≡ cell s' w' = sym (div-mul-add (cell s w) width k within) ∙ ap (λ b. b / width) same ∙ div-mul-add (cell s' w') width k' within' in
      let states : k ≡ k' = sym (mod-mul-add (cell s w) width k within) ∙ ap (λ b. b % width) same ∙ mod-mul-add (cell s' w') width k' within' in
      let a = here.read in
      let b = there.read in
      let in_row : s < row = omega (arith, a) in
      let in_row' : s' < row = omega (arith, b) in
      let rows : w ≡ w' = sym (div-mul-add w row s in_row) ∙ ap (λ c. c / row) cells ∙ div-mul-add w' row s' in_row' in
      let columns : s ≡ s' = sym (mod-mul-add w row s in_row) ∙ ap (λ c. c % row) cells ∙ mod-mul-add w' row s' in_row' in
      (columns, rows, states)

  cell-within : (s w : ℕ) → IsPlace q s w → cell s w + 1 ≤ (length q.pattern + 1) * row
  cell-within s w place =
      let a = place.read in
      let b = place.wrote in
      let rows : (w + 1) * row ≤ (length q.pattern + 1) * row = mul-le-mul_right row (omega (arith, b)) in
      let one : (w + 1) * row ≡ w * row + row = grind arith in
      omega (arith, a, rows, one)

  -- the bits of a place are among all
  pub place-within : (s w k : ℕ) → IsPlace q s w → k < width → bit_of q s w k < bits_of q
  place-within s w k place within =
      let cells : (cell s w + 1) * width ≤ (length q.pattern + 1) * row * width = mul-le-mul_right width (cell-within s w place) in
      let one : (cell s w + 1) * width ≡ cell s w * width + width = grind arith in
      omega (arith, cells, one)

  -- ---- the bits that are set

  pub none-set : (words : List ℕ) → ((bit : ℕ) → HasBit words bit → ⊥) → EndFrom q (bits_of q) words
  none-set words clear bit = (
    (λ set. absurd (clear bit set)),
    (λ (from, end).
        let less = place-within end.silent end.written end.state end.place (let a = end.within in omega (arith, a)) in
        let same = end.same in
        absurd (omega (arith, less, same, from))),
  )

  -- a state ends where its bit is that of one that ends
  end-is : (s w state : ℕ) → IsPlace q s w → state < width → IsOfEnd q (bit_of q s w state) → CanEnd q s w state
  end-is s w state place within end =
      let (a, b, c) = same-place s w state end.silent end.written end.state place end.place within (let k = end.within in omega (arith, k)) end.same in
      subst (λ x. CanEnd q x w state) (sym a) (subst (λ x. CanEnd q end.silent x state) (sym b) (subst (λ x. CanEnd q end.silent end.written x) (sym c) end.ends))

  -- the places whose bits stand behind are right
  pub right-behind : (from : ℕ) (words : List ℕ) → EndFrom q from words → (s w : ℕ) → IsPlace q s w → from ≤ bit_of q s w 0 → IsRightAt q words s w
  right-behind from words are s w place behind state within = (
    (λ set. end-is s w state place (omega (arith, within)) ((are (bit_of q s w state)).0 set).1),
    (λ ends. (are (bit_of q s w state)).1
        (omega (arith, behind), record { silent = s; written = w; state = state; place = place; within = within; same = refl; ends = ends })),
  )

  module _ (words : List ℕ) (s w old new : ℕ) (place : IsPlace q s w) (within : old ≤ width) (next : old ≡ new + 1) (are : EndFrom q (bit_of q s w old) words) where
    pub right-silent : IsPlace q (s + 1) w → IsRightAt q words (s + 1) w
    right-silent there =
        let one : cell (s + 1) w * width ≡ cell s w * width + width = grind arith in
        right-behind (bit_of q s w old) words are (s + 1) w there (omega (arith, one, within))

    pub right-written : IsPlace q s (w + 1) → IsRightAt q words s (w + 1)
    right-written there =
        let cells : cell s w + 1 ≤ cell s (w + 1) = (let one : (w + 1) * row ≡ w * row + row = grind arith in omega (arith, one)) in
        let bits : (cell s w + 1) * width ≤ cell s (w + 1) * width = mul-le-mul_right width cells in
        let one : (cell s w + 1) * width ≡ cell s w * width + width = grind arith in
        right-behind (bit_of q s w old) words are s (w + 1) there (omega (arith, bits, one, within))

    -- the bit of a state that ends was set
    pub one-set : (after : List ℕ) → CanEnd q s w new → ((r : ℕ) → HasBit after r ↔ (HasBit words r ⊎ (r ≡ bit_of q s w new))) → EndFrom q (bit_of q s w new) after
    one-set after ends set bit = (forth, back)
      where
        own : IsOfEnd q (bit_of q s w new)
        own = record { silent = s; written = w; state = new; place = place; within = omega (arith, within, next); same = refl; ends = ends }

        forth : HasBit after bit → (bit_of q s w new ≤ bit) × IsOfEnd q bit
        forth has = elim ((set bit).0 has) [
          | inl had ↦ (let (from, end) = (are bit).0 had in (omega (arith, from, next), end))
          | inr same ↦ (omega (arith, same), subst (IsOfEnd q) (sym same) own)
        ]

        back : (bit_of q s w new ≤ bit) × IsOfEnd q bit → HasBit after bit
        back (from, end) = elim (cases_eq bit (bit_of q s w new)) [
          | inl same ↦ (set bit).1 (inr same)
          | inr apart ↦ (set bit).1 (inl ((are bit).1 (omega (arith, from, apart, next), end)))
        ]

    -- the bit of a state that does not end stays as it was
    pub none-more : (CanEnd q s w new → ⊥) → EndFrom q (bit_of q s w new) words
    none-more never bit = (
      (λ has. let (from, end) = (are bit).0 has in (omega (arith, from, next), end)),
      (λ (from, end). elim (cases_eq bit (bit_of q s w new)) [
        | inl same ↦ absurd (never (end-is s w new place (omega (arith, within, next)) (subst (IsOfEnd q) same end)))
        | inr apart ↦ (are bit).1 (omega (arith, from, apart, next), end)
      ]),
    )

  -- ---- what is left of the items and of the pattern

  module _ (fits : length q.pattern ≤ length q.items) (s w : ℕ) (place : IsPlace q s w) where
    -- one more item can be read without an output where a run does
    next-silent : (states : List ℕ) (state : ℕ) → s + w < length q.items
        → IsRun q.links q.transducer state states (drop (s + 1 + w) q.items) (drop w q.pattern) → IsPlace q (s + 1) w
    next-silent states state more run =
        let few = run-shorter q.links q.transducer state states (drop (s + 1 + w) q.items) (drop w q.pattern) run in
        let a = place.wrote in
        let items = length-drop (s + 1 + w) q.items in
        let pattern = length-drop w q.pattern in
        record { read = omega (arith, few, items, pattern, fits, more, a); wrote = a }

    next-written : (v : Item) → slice_get q.pattern w ≡ Some v → IsPlace q s (w + 1)
    next-written v found =
        let inside = slice_get_within q.pattern w v found in
        record { read = place.read; wrote = omega (arith, inside) }

    module _ (state : ℕ) (edge : Edge) (held : Contains (edges_from q.transducer state) edge) (passes : Passes q s w edge) where
      abbrev t : Item
      t = passes.0

      items : drop (s + w) q.items ≡ t ∷ drop (s + w + 1) q.items
      items = drop-got q.items (s + w) t passes.1

      step : (states : List ℕ) (here there : List Item) → WritesAt q.links (leaf_of edge.leaf) edge.captured t here → drop w q.pattern ≡ here ++ there
          → IsRun q.links q.transducer edge.to.0 states (drop (s + w + 1) q.items) there
          → IsRun q.links q.transducer state (edge.to.0 ∷ states) (drop (s + w) q.items) (drop w q.pattern)
      step states here there writes both run =
          subst (λ l. IsRun q.links q.transducer state (edge.to.0 ∷ states) l (drop w q.pattern)) (sym items) (edge, here, there, held, refl, passes.2, writes, both, run)

      -- behind an edge that writes nothing
      pub goes-silent : edge.captured ≡ false → IsPlace q (s + 1) w × CanEnd q (s + 1) w edge.to.0
          × ((states : List ℕ) → IsRun q.links q.transducer edge.to.0 states (drop (s + 1 + w) q.items) (drop w q.pattern)
          → IsRun q.links q.transducer state (edge.to.0 ∷ states) (drop (s + w) q.items) (drop w q.pattern))
      goes-silent quiet =
          let leads : LeadsOn q s w t false edge = subst (λ b. LeadsOn q s w t b edge) quiet passes.3 in
          let count : s + 1 + w ≡ s + w + 1 = omega arith in (
            leads.0,
            leads.1,
            (λ states run.
                step states [] (drop w q.pattern) (subst (λ b. WritesAt q.links (leaf_of edge.leaf) b t []) (sym quiet) refl) refl
                (subst (λ n. IsRun q.links q.transducer edge.to.0 states (drop n q.items) (drop w q.pattern)) count run)),
          )

      -- behind an edge that writes
      pub goes-written : edge.captured ≡ true → IsPlace q s (w + 1) × CanEnd q s (w + 1) edge.to.0
          × ((states : List ℕ) → IsRun q.links q.transducer edge.to.0 states (drop (s + (w + 1)) q.items) (drop (w + 1) q.pattern)
          → IsRun q.links q.transducer state (edge.to.0 ∷ states) (drop (s + w) q.items) (drop w q.pattern))
      goes-written loud =
          let leads : LeadsOn q s w t true edge = subst (λ b. LeadsOn q s w t b edge) loud passes.3 in
          let v : Item = leads.0 in
          let count : s + (w + 1) ≡ s + w + 1 = omega arith in (
            next-written v leads.1,
            leads.3,
            (λ states run.
                step states (v ∷ []) (drop (w + 1) q.pattern) (subst (λ b. WritesAt q.links (leaf_of edge.leaf) b t (v ∷ [])) (sym loud) (v, leads.2, refl))
                (drop-got q.pattern w v leads.1)
                (subst (λ n. IsRun q.links q.transducer edge.to.0 states (drop n q.items) (drop (w + 1) q.pattern)) count run)),
          )

      -- an edge that passes leads from a state that ends
      pub passes-ends : CanEnd q s w state
      passes-ends = by edge.captured refl
        where
          by : (captured : Bool) → edge.captured ≡ captured → CanEnd q s w state
          by false quiet = (let (place, ends, on) = goes-silent quiet in (edge.to.0 ∷ ends.0, on ends.0 ends.1))
          by true loud = (let (place, ends, on) = goes-written loud in (edge.to.0 ∷ ends.0, on ends.0 ends.1))

    -- from a state that ends an edge passes, where an item is left
    pub ends-passes : (state : ℕ) → s + w < length q.items → CanEnd q s w state → (edge : Edge) × Contains (edges_from q.transducer state) edge × Passes q s w edge
    ends-passes state more (states, run) = by states (subst (λ l. IsRun q.links q.transducer state states l (drop w q.pattern)) items run)
      where
        t : Item
        t = get_or q.items (s + w) (record { 0 = 0 })

        found : slice_get q.items (s + w) ≡ Some t
        found = slice_get-get_or q.items (s + w) (record { 0 = 0 }) more

        items : drop (s + w) q.items ≡ t ∷ drop (s + w + 1) q.items
        items = drop-got q.items (s + w) t found

        by : (states : List ℕ) → IsRun q.links q.transducer state states (t ∷ drop (s + w + 1) q.items) (drop w q.pattern) → (edge : Edge) × Contains (edges_from q.transducer state) edge × Passes q s w edge
        by [] run = absurd run
        by (next ∷ states) (edge, here, there, held, is, reads, writes, both, run) =
            (edge, held, (t, found, reads, leads edge.captured here refl writes both))
          where
            rest : (n : ℕ) (others : List Item) → s + w + 1 ≡ n → there ≡ others → IsRun q.links q.transducer edge.to.0 states (drop n q.items) others
            rest n others same cut =
                subst (λ k. IsRun q.links q.transducer k states (drop n q.items) others) (sym is)
                (subst (λ l. IsRun q.links q.transducer next states (drop n q.items) l) cut
                (subst (λ m. IsRun q.links q.transducer next states (drop m q.items) there) same run))

            leads : (captured : Bool) (here : List Item) → edge.captured ≡ captured → WritesAt q.links (leaf_of edge.leaf) captured t here → drop w q.pattern ≡ here ++ there → LeadsOn q s w t captured edge
            leads false here quiet none both =
                let cut : there ≡ drop w q.pattern = sym (both ∙ ap (λ l. l ++ there) none) in
                let on = rest (s + 1 + w) (drop w q.pattern) (omega arith) cut in
                (next-silent states edge.to.0 more on, (states, on))
            leads true here loud (v, may, one) both =
                let whole : drop w q.pattern ≡ v ∷ there = both ∙ ap (λ l. l ++ there) one in
                let (at, tail) = got-drop q.pattern w v there whole in
                (v, at, may, (states, rest (s + (w + 1)) (drop (w + 1) q.pattern) (omega arith) (sym tail)))

    -- where no item is left, final states end
    pub last-ends : (state : ℕ) → s + w ≡ length q.items → Has q.transducer.finals state ↔ CanEnd q s w state
    last-ends state last =
        let a = place.read in
        let b = place.wrote in
        let items : drop (s + w) q.items ≡ [] = drop_all (s + w) q.items (omega (arith, last)) in
        let pattern : drop w q.pattern ≡ [] = drop_all w q.pattern (omega (arith, last, a, b, fits)) in (
          (λ final. ([], subst (λ l. IsRun q.links q.transducer state [] l (drop w q.pattern)) (sym items) (subst (λ l. IsRun q.links q.transducer state [] [] l) (sym pattern) (final, refl)))),
          (λ (states, run). by states (subst (λ l. IsRun q.links q.transducer state states [] l) pattern (subst (λ l. IsRun q.links q.transducer state states l (drop w q.pattern)) items run))),
        )
      where
        by : (states : List ℕ) → IsRun q.links q.transducer state states [] [] → Has q.transducer.finals state
        by [] run = run.0
        by (next ∷ states) run = absurd run

    -- whether an edge passes is whether the state ends
    pub some-ends : (state : ℕ) → s + w < length q.items → (found : Option Edge) (answer : Bool) → answer ≡ is_some found
        → MatchOption found ((edge : Edge) → Contains (edges_from q.transducer state) edge → Passes q s w edge → ⊥)
        (λ edge. Contains (edges_from q.transducer state) edge × (edge.to.0 ≤ length q.transducer.labels) × Passes q s w edge)
        → (answer ≡ true) ↔ CanEnd q s w state
    some-ends state more None answer is none = (
      (λ yes. absurd (true≢false (sym yes ∙ is))),
      (λ ends. let (edge, held, passes) = ends-passes state more ends in absurd (none edge held passes)),
    )
    some-ends state more (Some edge) answer is (held, within, passes) = ((λ yes. passes-ends state edge held passes), (λ ends. is))

  -- ---- rows of places

  module _ (n columns : ℕ) (same : columns ≡ silents_of q + 1) (less : n < (length q.pattern + 1) * columns) where
    -- the place with a number
    pub place-of : IsPlace q (n % columns) (n / columns)
    place-of =
        let read : n % columns < columns = omega (arith, same) in
        let rows : n / columns < length q.pattern + 1 = (div-lt_iff_lt-mul {k = columns} {x = n} {y = length q.pattern + 1} (omega (arith, same))).1 less in
        record { read = omega (arith, read, same); wrote = omega (arith, rows) }

    pub bit-of-place : (state : ℕ) → bit_of q (n % columns) (n / columns) state ≡ n * (length q.transducer.labels + 1) + state
    bit-of-place state =
        let cut : n / columns * (silents_of q + 1) + n % columns ≡ n = ap (λ c. n / columns * c + n % columns) (sym same) ∙ div-add-mod' n columns in
        ap (λ c. c * (length q.transducer.labels + 1) + state) cut
