-- Where the rows of each child begin.
use Rattle.std.proofs.Common.{◌≡◌, ℕ, ◌+◌, ◌≤◌, ◌<◌, List, [], ◌∷◌, ◌++◌, length, get_or, inl, inr, sym, ap, ◌∙◌, subst, arith, zero, suc, add-one}
use Rattle.std.proofs.lemmas.List.{get_or_append_left, get_or_push, length_push}
use Rattle.std.proofs.lemmas.Bool.{cases_lt, cases_eq}
use Rattle.item_hierarchy.specs.declared.edges.EdgeRow.{EdgeRow}
use Rattle.item_hierarchy.specs.ByChild.{AreByChild, AreSorted}

-- the starts of the children below this number, and where the rows of this number begin
pub record AreBelow (rows : List EdgeRow) (number : ℕ) (starts : List ℕ) (at : ℕ) : Type 0 where
  pub size : length starts ≡ number + 1
  pub last : get_or starts number 0 ≡ at
  pub upto : at ≤ length rows
  pub rising : (n : ℕ) → n < number → get_or starts n 0 ≤ get_or starts (n + 1) 0
  pub own : (n k : ℕ) (d : EdgeRow) → n < number → get_or starts n 0 ≤ k → k < get_or starts (n + 1) 0 → (get_or rows k d).child.0 ≡ n
  pub passed : (k : ℕ) (d : EdgeRow) → k < at → ((get_or rows k d).child.0 < number)
      × (get_or starts (get_or rows k d).child.0 0 ≤ k) × (k < get_or starts ((get_or rows k d).child.0 + 1) 0)
  pub left : (k : ℕ) (d : EdgeRow) → at ≤ k → k < length rows → number ≤ (get_or rows k d).child.0

module _ (rows : List EdgeRow) (number : ℕ) (starts : List ℕ) (at to : ℕ) (below : AreBelow rows number starts at) (sorted : AreSorted rows)
    (range : (at ≤ to) × (to ≤ length rows)) (run : (k : ℕ) (d : EdgeRow) → at ≤ k → k < to → (get_or rows k d).child.0 ≡ number)
    (end : (d : EdgeRow) → to < length rows → (get_or rows to d).child.0 ≡ number → ⊥) where
  old : (n : ℕ) → n ≤ number → get_or (starts ++ to ∷ []) n 0 ≡ get_or starts n 0
  old n upto = get_or_append_left starts (to ∷ []) 0 n (omega (arith, below.size))

  new : get_or (starts ++ to ∷ []) (number + 1) 0 ≡ to
  new = get_or_push starts to 0 (number + 1) below.size

  pub more_below : AreBelow rows (number + 1) (starts ++ to ∷ []) to
  more_below = record {
    size = length_push starts to ∙ ap (λ n. n + 1) below.size;
    last = new;
    upto = range.1;
    rising = λ n less. elim (cases_lt n number) [
      | inl before ↦ omega (arith, old n (omega arith), old (n + 1) (omega arith), below.rising n before)
      | inr last ↦
          let same : n ≡ number = omega arith in
          subst (λ n. get_or (starts ++ to ∷ []) n 0 ≤ get_or (starts ++ to ∷ []) (n + 1) 0) (sym same)
          (omega (arith, old number (omega arith), new, below.last, range.0))
    ];
    own = λ n k d less from upto. elim (cases_lt n number) [
      | inl before ↦ below.own n k d before (omega (arith, old n (omega arith), from)) (omega (arith, old (n + 1) (omega arith), upto))
      | inr last ↦
          let same : n ≡ number = omega arith in
          let from' : at ≤ k = omega (arith, subst (λ n. get_or (starts ++ to ∷ []) n 0 ≤ k) same from, old number (omega arith), below.last) in
          let upto' : k < to = omega (arith, subst (λ n. k < get_or (starts ++ to ∷ []) (n + 1) 0) same upto, new) in
          run k d from' upto' ∙ sym same
    ];
    passed = λ k d less. elim (cases_lt k at) [
      | inl before ↦
          let (child, from, upto) = below.passed k d before in
          let c : ℕ = (get_or rows k d).child.0 in
          (omega arith, omega (arith, old c (omega arith), from), omega (arith, old (c + 1) (omega arith), upto))
      | inr here ↦
          let is : (get_or rows k d).child.0 ≡ number = run k d here less in (
            omega (arith, is),
            subst (λ n. get_or (starts ++ to ∷ []) n 0 ≤ k) (sym is) (omega (arith, old number (omega arith), below.last)),
            subst (λ n. k < get_or (starts ++ to ∷ []) (n + 1) 0) (sym is) (omega (arith, new)),
          )
    ];
    left = λ k d from within.
        let beyond : number ≤ (get_or rows to d).child.0 = below.left to d range.0 (omega arith) in
        let rises : (get_or rows to d).child.0 ≤ (get_or rows k d).child.0 = sorted to k d from within in
        let other : (get_or rows to d).child.0 ≡ number → ⊥ = end d (omega arith) in
        omega (arith, beyond, rises, other);
  }

-- behind the last child no row is left
pub all_below : (rows : List EdgeRow) (items : ℕ) (starts : List ℕ) (at : ℕ) → AreBelow rows items starts at
    → ((k : ℕ) (d : EdgeRow) → k < length rows → (get_or rows k d).child.0 < items) → AreByChild items starts rows
all_below rows items starts at below children =
    let whole : (k : ℕ) (d : EdgeRow) → k < length rows → k < at = λ k d within.
    elim (cases_lt k at) [
      | inl before ↦ before
      | inr behind ↦ absurd (omega (arith, below.left k d behind within, children k d within))
    ] in
    record {
      size = below.size;
      rising = below.rising;
      within = λ n upto. omega (arith, below.upto, below.last, rises starts items below.rising items n upto (omega arith));
      own = below.own;
      all = λ k d within. let (child, from, upto) = below.passed k d (whole k d within) in (from, upto);
    }
  where
    rises : (starts : List ℕ) (items : ℕ) → ((n : ℕ) → n < items → get_or starts n 0 ≤ get_or starts (n + 1) 0)
        → (j i : ℕ) → i ≤ j → j ≤ items → get_or starts i 0 ≤ get_or starts j 0
    rises starts items rising zero i less upto =
        let same : i ≡ 0 = omega arith in subst (λ i. get_or starts i 0 ≤ get_or starts 0 0) (sym same) (omega arith)
    rises starts items rising (suc j) i less upto =
        elim (cases_eq i (suc j)) [
          | inl same ↦ subst (λ i. get_or starts i 0 ≤ get_or starts (suc j) 0) (sym same) (omega arith)
          | inr other ↦
              let step : get_or starts j 0 ≤ get_or starts (suc j) 0 = subst (λ n. get_or starts j 0 ≤ get_or starts n 0) (add-one j) (rising j (omega arith)) in
              omega (arith, rises starts items rising j i (omega arith) (omega arith), step)
        ]
