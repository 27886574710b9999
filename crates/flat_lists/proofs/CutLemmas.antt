-- Lemmas on lists that lie one behind the other in one.
use Rattle.std.proofs.Common.{◌≡◌, ℕ, zero, suc, ◌+◌, ◌-◌, ◌≤◌, ◌<◌, Some, List, [], ◌∷◌, ◌++◌, length, get_or, take, drop, length-drop, refl, sym, ap, ◌∙◌, subst, arith, inl, inr, add-one, zero-add}
use Rattle.std.specs.List.{slice_range, slice_index, slice_get}
use Rattle.std.proofs.lemmas.List.{same_lists, length_push, get_or_push, get_or_append_left, drop_at, take_all, length-append, take-append-le, drop-append-le}
use Rattle.std.proofs.lemmas.List.FromFn.{get_or-map-range_with_len, length-map-range_with_len}
use Rattle.std.proofs.lemmas.Option.{slice_get-get_or}
use Rattle.std.proofs.lemmas.Bool.{cases_eq, cases_lt}
use Rattle.flat_lists.specs.Cuts.{start_of, list_at, lists_in, AreCut}

-- elements behind the end of a range don't alter it
pub slice_range-append : {X : Type 0} (xs ys : List X) (from end : ℕ) → from ≤ end → end ≤ length xs → slice_range (xs ++ ys) from end ≡ slice_range xs from end
slice_range-append xs ys from end rises within =
    let begun : from ≤ length xs = omega arith in
    let fits : end - from ≤ length (drop from xs) = rw length-drop (omega arith) in
    rw (drop-append-le from xs ys begun, take-append-le (end - from) (drop from xs) ys fits) refl

-- the elements behind the others are those that were put there
pub slice_range-behind : {X : Type 0} (xs ys : List X) (to : ℕ) → to ≡ length xs + length ys → slice_range (xs ++ ys) (length xs) to ≡ ys
slice_range-behind xs ys to is =
    let size : to - length xs ≡ length ys = omega arith in
    ap (λ n. take n (drop (length xs) (xs ++ ys))) size ∙ ap (take (length ys)) (drop_at xs ys (length xs) refl) ∙ take_all (length ys) ys (omega arith)

-- Where lists begin and end

module _ (ends : List ℕ) (size : ℕ) (cut : AreCut ends size) where
  start_rises : (i j : ℕ) → i ≤ j → j ≤ length ends → start_of ends i ≤ start_of ends j
  start_rises i zero below within = let e : i ≡ 0 = omega arith in subst (λ n. start_of ends n ≤ start_of ends 0) (sym e) (omega arith)
  start_rises i (suc j) below within =
      elim (cases_eq i (suc j)) [
        | inl same ↦ subst (λ n. start_of ends n ≤ start_of ends (suc j)) (sym same) (omega arith)
        | inr other ↦
            let before : start_of ends i ≤ start_of ends j = start_rises i j (omega arith) (omega arith) in
            let step : start_of ends j ≤ slice_index ends j = cut.forward j (omega arith) in
            omega (arith, before, step)
      ]

  pub end_within : (i : ℕ) → i < length ends → slice_index ends i ≤ size
  end_within i within =
      let rises : start_of ends (suc i) ≤ start_of ends (length ends) = start_rises (suc i) (length ends) (omega arith) (omega arith) in
      omega (arith, rises, cut.whole)

-- Lists by their numbers

module _ {X : Type 0} where
  pub length-lists_in : (ends : List ℕ) (elements : List X) → length (lists_in ends elements) ≡ length ends
  length-lists_in ends elements = length-map-range_with_len (list_at ends elements) 0 (length ends)

  pub list_in : (ends : List ℕ) (elements : List X) (number : ℕ) (d : List X) → number < length ends → get_or (lists_in ends elements) number d ≡ list_at ends elements number
  list_in ends elements number d within = get_or-map-range_with_len (list_at ends elements) 0 (length ends) number number d within (zero-add number)

  -- what is read between both ends is the list
  pub list_read : (ends : List ℕ) (elements read : List X) (start end number : ℕ) → number < length ends → start ≡ start_of ends number → end ≡ slice_index ends number
      → read ≡ elements → slice_get (lists_in ends elements) number ≡ Some (slice_range read start end)
  list_read ends elements read start end number within starts stops same =
      slice_get-get_or (lists_in ends elements) number [] (omega (arith, within, length-lists_in ends elements))
      ∙ ap (λ list. Some list) (list_in ends elements number [] within ∙ there)
    where
      there : list_at ends elements number ≡ slice_range read start end
      there = cc

-- One more list behind the others

module _ {X : Type 0} (ends : List ℕ) (elements list : List X) (to : ℕ) (is : to ≡ length elements + length list) (cut : AreCut ends (length elements)) where
  start-old : (n : ℕ) → n ≤ length ends → start_of (ends ++ to ∷ []) n ≡ start_of ends n
  start-old n below = get_or_append_left (0 ∷ ends) (to ∷ []) 0 n (omega arith)

  end-old : (n : ℕ) → n < length ends → slice_index (ends ++ to ∷ []) n ≡ slice_index ends n
  end-old n below = get_or_append_left ends (to ∷ []) 0 n below

  end-new : slice_index (ends ++ to ∷ []) (length ends) ≡ to
  end-new = get_or_push ends to 0 (length ends) refl

  pub list_at-old : (n : ℕ) → n < length ends → list_at (ends ++ to ∷ []) (elements ++ list) n ≡ list_at ends elements n
  list_at-old n below =
      ap (λ from. slice_range (elements ++ list) from (slice_index (ends ++ to ∷ []) n)) (start-old n (omega arith))
      ∙ ap (slice_range (elements ++ list) (start_of ends n)) (end-old n below)
      ∙ slice_range-append elements list (start_of ends n) (slice_index ends n) (cut.forward n below) (end_within ends (length elements) cut n below)

  pub list_at-new : list_at (ends ++ to ∷ []) (elements ++ list) (length ends) ≡ list
  list_at-new =
      let start : start_of (ends ++ to ∷ []) (length ends) ≡ length elements = start-old (length ends) (omega arith) ∙ cut.whole in
      ap (λ from. slice_range (elements ++ list) from (slice_index (ends ++ to ∷ []) (length ends))) start
      ∙ ap (slice_range (elements ++ list) (length elements)) end-new ∙ slice_range-behind elements list to is

  pub cut-more : AreCut (ends ++ to ∷ []) (length (elements ++ list))
  cut-more = record {
    forward = λ n below. elim (cases_lt n (length ends)) [
      | inl old ↦ omega (arith, start-old n (omega arith), end-old n old, cut.forward n old)
      | inr beyond ↦
          let last : n ≡ length ends = omega (arith, length_push ends to) in
          let P : ℕ → Type 0 = λ n. start_of (ends ++ to ∷ []) n ≤ slice_index (ends ++ to ∷ []) n in
          subst P (sym last) (omega (arith, start-old (length ends) (omega arith), end-new, cut.whole, is))
    ];
    whole = ap (start_of (ends ++ to ∷ [])) (length_push ends to ∙ add-one (length ends)) ∙ end-new ∙ is ∙ sym (length-append elements list);
  }

  pub lists_in-push : lists_in (ends ++ to ∷ []) (elements ++ list) ≡ lists_in ends elements ++ list ∷ []
  lists_in-push = same_lists (lists_in (ends ++ to ∷ []) (elements ++ list)) (lists_in ends elements ++ list ∷ []) lengths each
    where
      lengths : length (lists_in (ends ++ to ∷ []) (elements ++ list)) ≡ length (lists_in ends elements ++ list ∷ [])
      lengths =
          omega (arith, length-lists_in (ends ++ to ∷ []) (elements ++ list), length_push ends to, length_push (lists_in ends elements) list, length-lists_in ends elements)

      each : (k : ℕ) (d : List X) → k < length (lists_in (ends ++ to ∷ []) (elements ++ list))
          → get_or (lists_in (ends ++ to ∷ []) (elements ++ list)) k d ≡ get_or (lists_in ends elements ++ list ∷ []) k d
      each k d within =
          let inside : k < length (ends ++ to ∷ []) = omega (arith, within, length-lists_in (ends ++ to ∷ []) (elements ++ list)) in
          let count = length-lists_in ends elements in
          list_in (ends ++ to ∷ []) (elements ++ list) k d inside
          ∙ elim (cases_lt k (length ends)) [
            | inl old ↦
                list_at-old k old ∙ sym (list_in ends elements k d old)
                ∙ sym (get_or_append_left (lists_in ends elements) (list ∷ []) d k (omega (arith, count, old)))
            | inr beyond ↦
                let last : length ends ≡ k = omega (arith, inside, length_push ends to) in
                subst (λ n. list_at (ends ++ to ∷ []) (elements ++ list) n ≡ list) last list_at-new
                ∙ sym (get_or_push (lists_in ends elements) list d k (omega (arith, count, last)))
          ]
