-- The workers' equations add up to the cover equation.
use Rattle.std.proofs.Common.{◌≡◌, ℕ, ◌+◌, List, [], ◌∷◌, ◌++◌, refl, arith, sum_by, flat_map}
use Rattle.std.specs.List.{AllByRecursion}
use Rattle.std.proofs.lemmas.List.Sums.{sum_by-append}
use Rattle.mine_model.specs.Labels.{SameLabels}
use Rattle.search_tree.specs.Cover.{Covers, Shift, IsEven, all_made, all_given, all_got}
use Rattle.search_tree.proofs.CoverLemmas.{kids_weight, flat-weight}

shifts-weigh : (kids : List ℕ → List (List ℕ)) (shifts : List Shift) → AllByRecursion (IsEven kids) shifts → (weight : List ℕ → ℕ)
    → sum_by weight (all_made shifts) + sum_by weight (all_given shifts) ≡ sum_by weight (all_got shifts) + sum_by (kids_weight kids weight) (all_made shifts)
shifts-weigh kids [] even weight = refl
shifts-weigh kids (s ∷ shifts) even weight = omega (
  arith,
  even.0 weight,
  shifts-weigh kids shifts even.1 weight,
  sum_by-append weight s.made s.given,
  sum_by-append weight s.got (flat_map kids s.made),
  flat-weight kids weight s.made,
  sum_by-append weight s.made (all_made shifts),
  sum_by-append weight s.given (all_given shifts),
  sum_by-append weight s.got (all_got shifts),
  sum_by-append (kids_weight kids weight) s.made (all_made shifts),
)

-- the caller put some roots and was handed back the others; after the workers it posts these, what is left in the deques, and all below
pub shifts_cover : (roots put_roots handed left rest : List (List ℕ)) (kids : List ℕ → List (List ℕ)) (shifts : List Shift)
    → SameLabels roots (put_roots ++ handed)
    → AllByRecursion (IsEven kids) shifts
    → SameLabels (put_roots ++ all_given shifts) (all_got shifts ++ left)
    → SameLabels rest ((handed ++ left) ++ flat_map kids rest)
    → Covers roots kids (all_made shifts ++ rest)
shifts_cover roots put_roots handed left rest kids shifts split even finish below = λ weight. omega (
  arith,
  split weight,
  shifts-weigh kids shifts even weight,
  finish weight,
  below weight,
  sum_by-append weight put_roots handed,
  sum_by-append weight put_roots (all_given shifts),
  sum_by-append weight (all_got shifts) left,
  sum_by-append weight (handed ++ left) (flat_map kids rest),
  sum_by-append weight handed left,
  sum_by-append weight (all_made shifts) rest,
  sum_by-append weight roots (flat_map kids (all_made shifts ++ rest)),
  flat-weight kids weight rest,
  flat-weight kids weight (all_made shifts ++ rest),
  sum_by-append (kids_weight kids weight) (all_made shifts) rest,
)
