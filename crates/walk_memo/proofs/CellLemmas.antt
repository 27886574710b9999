-- Cells of rows and columns, and the list in which they stand.
use Rattle.std.proofs.Common.{◌≡◌, ℕ, ◌+◌, ◌*◌, ◌/◌, ◌%◌, ◌<◌, ◌⊎◌, inl, inr, Some, None, Option, List, [], ◌∷◌, ◌++◌, set, length, slice_get, sym, ap, ◌∙◌}
use Rattle.std.proofs.lemmas.Nat.{div-mul-add, mod-mul-add}
use Rattle.std.proofs.lemmas.Bool.{cases_eq}
use Rattle.mine_model.proofs.ElementLemmas.{get-some, get_set_same, get_set_other, get_snoc}

-- the place of a cell tells its row and its column
pub cell_of_place : (columns r k row column : ℕ) → k < columns → column < columns → r * columns + k ≡ row * columns + column → (r ≡ row) × (k ≡ column)
cell_of_place columns r k row column inside within same = (
  sym (div-mul-add r columns k inside) ∙ ap (λ n. n / columns) same ∙ div-mul-add row columns column within,
  sym (mod-mul-add r columns k inside) ∙ ap (λ n. n % columns) same ∙ mod-mul-add row columns column within,
)

-- an empty cell at the end is not filled
pub filled-push : {T : Type 0} (xs : List (Option T)) (i : ℕ) (v : T) → slice_get (xs ++ None ∷ []) i ≡ Some (Some v) → slice_get xs i ≡ Some (Some v)
filled-push xs i v is = elim (get_snoc xs None i (Some v) is) [
  | inl old ↦ old
  | inr (last, none) ↦ absurd (cc)
]

-- after one cell was filled
pub filled-set : {T : Type 0} (xs : List (Option T)) (columns row column r k : ℕ) (value v : T) → column < columns → k < columns → row * columns + column < length xs
    → slice_get (set xs (row * columns + column) (Some value)) (r * columns + k) ≡ Some (Some v)
    → ((r ≡ row) × (k ≡ column) × (v ≡ value)) ⊎ (slice_get xs (r * columns + k) ≡ Some (Some v))
filled-set xs columns row column r k value v within inside short is = elim (cases_eq (r * columns + k) (row * columns + column)) [
  | inl same ↦
      let (same_row, same_column) = cell_of_place columns r k row column inside within same in
      let (old, stood) = get-some xs (row * columns + column) short in
      let here : slice_get (set xs (row * columns + column) (Some value)) (r * columns + k) ≡ Some (Some value) =
      ap (slice_get (set xs (row * columns + column) (Some value))) same ∙ get_set_same xs (row * columns + column) old (Some value) stood in
      let value_is : v ≡ value = cc in
      inl (same_row, same_column, value_is)
  | inr other ↦ inr (sym (get_set_other xs (row * columns + column) (r * columns + k) (Some value) other) ∙ is)
]
