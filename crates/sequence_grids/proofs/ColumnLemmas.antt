-- Columns of a transducer, state by state.
use Rattle.std.proofs.Common.{◌≡◌, ℕ, ◌+◌, ◌<◌, ◌≤◌, inl, inr, List, [], ◌∷◌, ◌++◌, length, arith, ap, ◌∙◌}
use Rattle.std.specs.List.{slice_index}
use Rattle.std.proofs.Math.Seq.{get_or-append_seam}
use Rattle.std.proofs.lemmas.List.{get_or_append_left, length-append}
use Rattle.std.proofs.lemmas.Bool.{cases_eq}
use Rattle.fst_compile.specs.declared.edge.Label.{Label}
use Rattle.sequence_grids.specs.Columns.{IsColumnOf}
use Rattle.sequence_grids.specs.Kinds.{Extends}

module _ (labels : List Label) where
  pub IsColumnOf-grow : (heads heads' : List ℕ) (k number : ℕ) → IsColumnOf labels heads k number → Extends heads heads' → IsColumnOf labels heads' k number
  IsColumnOf-grow heads heads' k number (below, same) (more, e) =
      let head : slice_index (heads ++ more) number ≡ slice_index heads number = get_or_append_left heads more 0 number below in
      rw e ((omega (arith, below, length-append heads more)), (rw head same))

  pub numbers_more : (heads heads' numbers : List ℕ) (k number : ℕ) → length numbers ≡ k → ((j : ℕ) → 1 ≤ j → j < k → IsColumnOf labels heads j (slice_index numbers j)) → Extends heads heads'
      → IsColumnOf labels heads' k number → (j : ℕ) → 1 ≤ j → j < k + 1 → IsColumnOf labels heads' j (slice_index (numbers ++ number ∷ []) j)
  numbers_more heads heads' numbers k number long so_far grow is j least below = elim (cases_eq j k) [
    | inl same ↦
        let place : j ≡ length numbers = omega arith in
        let last : slice_index (numbers ++ number ∷ []) j ≡ number = ap (slice_index (numbers ++ number ∷ [])) place ∙ get_or-append_seam numbers number [] 0 in
        rw (last, same) is
    | inr other ↦
        let before : slice_index (numbers ++ number ∷ []) j ≡ slice_index numbers j = get_or_append_left numbers (number ∷ []) 0 j (omega arith) in
        rw before (IsColumnOf-grow heads heads' j (slice_index numbers j) (so_far j least (omega arith)) grow)
  ]
