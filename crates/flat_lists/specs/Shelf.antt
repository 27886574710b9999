-- Lists, and what the memory that was taken for them holds.
use Rattle.std.specs.Prelude.{ℕ, List, length, refl}
use Rattle.std.specs.List.{sum_by}
use Rattle.std.specs.Coded.{Coded, code_by, coded×, coded_ℕ, coded_list}

-- lists, and how many lists and how many elements in all the memory holds
pub record Shelf (A : Type 0) : Type 0 where
  pub lists : List (List A)
  pub most_lists : ℕ
  pub most_elements : ℕ

-- a shelf is stored as the tuple of its fields
abbrev pub shelf_code : {A : Type 0} → Coded A → Coded (Shelf A)
shelf_code {A} code =
    code_by (List (List A) × (ℕ × ℕ)) (coded× (coded_list (coded_list code)) (coded× coded_ℕ coded_ℕ))
    (λ s. (s.lists, (s.most_lists, s.most_elements)))
    (λ p. record { lists = p.0; most_lists = p.1.0; most_elements = p.1.1 }) (λ _. refl)

-- how many elements the lists have in all
unfoldable pub elements_of : {A : Type 0} → List (List A) → ℕ
elements_of lists = sum_by length lists
