-- The order of rows, as a comparison.
use Rattle.std.specs.Prelude.{ℕ, List}
use Rattle.std.specs.Ordering.{nat_cmp, ordering_then}
use Rattle.std.specs.Cmp.Lexicographic.{slice_cmp}
use Rattle.std.specs.declared.cmp.Ordering.{Ordering}
use Rattle.mine_model.specs.Answer.{NamedRow}

-- lists of names, name by name in byte order
abbrev pub names_cmp : List (List ℕ) → List (List ℕ) → Ordering
names_cmp names others = slice_cmp (slice_cmp nat_cmp) names others

-- rows by falling support, then by their names
abbrev pub row_cmp : NamedRow → NamedRow → Ordering
row_cmp first second =
    ordering_then (nat_cmp second.support first.support) (names_cmp first.pattern second.pattern)
