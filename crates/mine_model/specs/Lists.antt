-- Lists that grow, and the order of lists of ranks.
use Rattle.std.specs.Prelude.{◌≡◌, ℕ, List, ◌++◌, Contains}
use Rattle.std.specs.Ordering.{nat_cmp}
use Rattle.std.specs.Cmp.Lexicographic.{slice_cmp}
use Rattle.std.specs.declared.cmp.Ordering.TheVariants.{Less}

-- the list stays, or gains the element at its end
abbrev pub AddsTo : {A : Type 0} → List A → A → List A → Type 0
AddsTo {A} before x after = (more : List A) × (after ≡ before ++ more) × ((y : A) → Contains more y → y ≡ x)

-- the first list comes earlier: rank by rank, a proper prefix first
abbrev pub IsEarlier : List ℕ → List ℕ → Type 0
IsEarlier first second = slice_cmp nat_cmp first second ≡ Less
