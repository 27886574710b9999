-- How many elements lists have in all.
use Rattle.std.proofs.Common.{◌≡◌, ℕ, zero, suc, ◌+◌, ◌-◌, ◌≤◌, ◌<◌, Some, List, [], ◌∷◌, ◌++◌, length, take, drop, refl, sym, ap, ◌∙◌, arith, add-one}
use Rattle.std.specs.List.{slice_range, slice_index, slice_get}
use Rattle.std.proofs.lemmas.List.{take_more, take_all, drop_more, length-take, length-drop}
use Rattle.std.proofs.lemmas.List.Sums.{sum_by-cons, sum_by-append}
use Rattle.std.proofs.lemmas.Option.{slice_get_within, get_or_from_slice_get}
use Rattle.flat_lists.specs.Cuts.{start_of, list_at, lists_in, AreCut}
use Rattle.flat_lists.specs.Shelf.{elements_of}
use Rattle.flat_lists.proofs.CutLemmas.{end_within, length-lists_in, list_in}

elements_of-none : (X : Type 0) → elements_of {A = X} [] ≡ 0
unfolding elements_of
elements_of-none X = refl

module _ {X : Type 0} where
  elements_of-cons : (list : List X) (lists : List (List X)) → elements_of (list ∷ lists) ≡ length list + elements_of lists
  unfolding elements_of
  elements_of-cons list lists = sum_by-cons length list lists

  pub elements_of-push : (lists : List (List X)) (list : List X) → elements_of (lists ++ list ∷ []) ≡ elements_of lists + length list
  unfolding elements_of
  elements_of-push lists list = omega (arith, sum_by-append length lists (list ∷ []), sum_by-cons length list [])

  -- the elements from this list on
  pub elements_of-drop : (lists : List (List X)) (number : ℕ) (list : List X) → slice_get lists number ≡ Some list
      → elements_of (drop number lists) ≡ length list + elements_of (drop (number + 1) lists)
  elements_of-drop lists number list at =
      ap elements_of (drop_more lists number list (slice_get_within lists number list at))
      ∙ ap (λ x. elements_of (x ∷ drop (number + 1) lists)) (get_or_from_slice_get lists number list list at)
      ∙ elements_of-cons list (drop (number + 1) lists)

module _ {X : Type 0} (ends : List ℕ) (elements : List X) (cut : AreCut ends (length elements)) where
  -- the first lists end where the next one begins
  elements_before : (number : ℕ) → number ≤ length ends → elements_of (take number (lists_in ends elements)) ≡ start_of ends number
  elements_before zero within = elements_of-none X
  elements_before (suc number) within =
      let count = length-lists_in ends elements in
      let inside : number < length (lists_in ends elements) = omega (arith, count, within) in
      let more : take (suc number) (lists_in ends elements) ≡ take number (lists_in ends elements) ++ list_at ends elements number ∷ [] =
      ap (λ n. take n (lists_in ends elements)) (sym (add-one number)) ∙ take_more (lists_in ends elements) number [] inside
      ∙ ap (λ x. take number (lists_in ends elements) ++ x ∷ []) (list_in ends elements number [] (omega (arith, within))) in
      let one : length (list_at ends elements number) ≡ slice_index ends number - start_of ends number = length-list_at number (omega (arith, within)) in
      ap elements_of more ∙ omega (
        arith,
        elements_of-push (take number (lists_in ends elements)) (list_at ends elements number),
        elements_before number (omega (arith, within)),
        one,
        cut.forward number (omega (arith, within)),
      )
    where
      length-take_drop : (start end : ℕ) → start ≤ end → end ≤ length elements → length (slice_range elements start end) ≡ end - start
      length-take_drop start end forward last = omega (arith, length-take (end - start) (drop start elements), length-drop start elements)

      length-list_at : (k : ℕ) → k < length ends → length (list_at ends elements k) ≡ slice_index ends k - start_of ends k
      length-list_at k below =
          let forward = cut.forward k below in
          let last = end_within ends (length elements) cut k below in
          length-take_drop (start_of ends k) (slice_index ends k) forward last

  pub elements_of-lists_in : elements_of (lists_in ends elements) ≡ length elements
  elements_of-lists_in =
      ap elements_of (sym (take_all (length ends) (lists_in ends elements) (omega (arith, length-lists_in ends elements)))) ∙ elements_before (length ends) (omega arith) ∙ cut.whole
