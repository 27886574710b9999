-- The ends of a kind's outputs, cut out of those of all kinds.
use Rattle.std.proofs.Common.{◌≡◌, ℕ, ◌+◌, ◌-◌, ◌<◌, List, drop, length, get_or, arith, ap, ◌∙◌, length-drop, get_or-drop}

module _ (ends row : List ℕ) (base column : ℕ) (is : row ≡ drop base ends) where
  pub row_inside : base + column + 1 < length ends → column + 1 < length row
  row_inside inside = let long : length row ≡ length ends - base = ap length is ∙ length-drop base ends in omega arith

  pub row_start : get_or row column 0 ≡ get_or ends (base + column) 0
  row_start = ap (λ (xs : List ℕ). get_or xs column 0) is ∙ get_or-drop base ends column 0

  pub row_end : get_or row (column + 1) 0 ≡ get_or ends (base + column + 1) 0
  row_end =
      let place : base + (column + 1) ≡ base + column + 1 = omega arith in
      ap (λ (xs : List ℕ). get_or xs (column + 1) 0) is ∙ get_or-drop base ends (column + 1) 0 ∙ ap (λ (i : ℕ). get_or ends i 0) place
