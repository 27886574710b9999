-- Hashes of lists, two ranks a step.
use Rattle.std.proofs.Common.{◌≡◌, ℕ, ◌+◌, ◌*◌, ◌<◌, List, ◌∷◌, length, get_or, drop, ap, ◌∙◌, arith}
use Rattle.std.proofs.lemmas.List.{drop_more, drop_all}
use Rattle.pattern_counts.specs.Hashes.{mixed, mixed_all}

module _ (hash : ℕ) (list : List ℕ) (at : ℕ) where
  pub mixed-two : at + 1 < length list
      → mixed_all hash (drop at list) ≡ mixed_all (mixed hash (get_or list at 0 + get_or list (at + 1) 0 * 4294967296)) (drop (at + 2) list)
  mixed-two within =
      let first : drop at list ≡ get_or list at 0 ∷ drop (at + 1) list = drop_more list at 0 (omega (arith, within)) in
      let second : drop (at + 1) list ≡ get_or list (at + 1) 0 ∷ drop (at + 1 + 1) list = drop_more list (at + 1) 0 within in
      let next : at + 1 + 1 ≡ at + 2 = omega arith in
      ap (mixed_all hash) (first ∙ ap (λ ranks. get_or list at 0 ∷ ranks) second)
      ∙ ap (λ n. mixed_all (mixed hash (get_or list at 0 + get_or list (at + 1) 0 * 4294967296)) (drop n list)) next

  pub mixed-one : at + 1 ≡ length list → mixed_all hash (drop at list) ≡ mixed hash (get_or list at 0)
  mixed-one last =
      let first : drop at list ≡ get_or list at 0 ∷ drop (at + 1) list = drop_more list at 0 (omega (arith, last)) in
      ap (mixed_all hash) (first ∙ ap (λ ranks. get_or list at 0 ∷ ranks) (drop_all (at + 1) list (omega (arith, last))))

  pub mixed-none : at ≡ length list → mixed_all hash (drop at list) ≡ hash
  mixed-none end = ap (mixed_all hash) (drop_all at list (omega (arith, end)))
