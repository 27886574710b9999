-- The order of items by falling frequency and then by name, as a comparison.
use Rattle.std.specs.Prelude.{◌≡◌, ℕ, ◌<◌, ◌⊎◌, List}
use Rattle.std.specs.List.{slice_index}
use Rattle.std.specs.Ordering.{nat_cmp, ordering_then}
use Rattle.std.specs.Cmp.Lexicographic.{slice_cmp}
use Rattle.std.specs.declared.cmp.Ordering.{Ordering}
use Rattle.std.specs.declared.cmp.Ordering.TheVariants.{Less}
use Rattle.mine_model.specs.declared.item.Item.{Item}
use Rattle.mine_model.specs.Names.{name_of}

abbrev pub item_cmp : List ℕ → List (List ℕ) → Item → Item → Ordering
item_cmp frequencies names v w =
    ordering_then (nat_cmp (slice_index frequencies w.0) (slice_index frequencies v.0))
    (slice_cmp nat_cmp (name_of names v) (name_of names w))

-- v is more frequent than w, or as frequent and has the earlier name
abbrev pub ComesBefore : List ℕ → List (List ℕ) → Item → Item → Type 0
ComesBefore frequencies names v w =
    (slice_index frequencies w.0 < slice_index frequencies v.0)
    ⊎ ((slice_index frequencies v.0 ≡ slice_index frequencies w.0)
    × (slice_cmp nat_cmp (name_of names v) (name_of names w) ≡ Less))
