-- The rows that the lines of merged files say, by the numbers of their names.
use Rattle.std.specs.Prelude.{ℕ, List, [], ◌∷◌, map, Contains}
use Rattle.std.specs.List.{AllByRecursion}
use Rattle.mine_model.specs.declared.item.Item.{Item}
use Rattle.mine_model.specs.declared.row.Row.{Row}
use Rattle.mine_model.specs.Answer.{NamedRow}
use Rattle.mine_model.specs.Names.{HasName, named_row, GrowBy}
use Rattle.mine_model.specs.Numbered.{PatternsDiffer}
use Rattle.split_merge.specs.Merging.{IsRowLine, names_of_lines}

-- one of the rows has the pattern
abbrev pub HasPattern : List Row → List Item → Type 0
HasPattern rows pattern = Contains (map (λ row. row.pattern) rows) pattern

-- each line says the row at its place
abbrev pub AreSaid : ℕ → List (List ℕ) → List NamedRow → Type 0
AreSaid threshold [] [] = Unit {0}
AreSaid threshold [] (row ∷ rows) = ⊥
AreSaid threshold (line ∷ lines) [] = ⊥
AreSaid threshold (line ∷ lines) (row ∷ rows) = IsRowLine threshold line row × AreSaid threshold lines rows

-- the lines say these rows, no two of one pattern, and the names are those of the lines
pub record AreRowsOfLines (threshold : ℕ) (lines names : List (List ℕ)) (rows : List Row) : Type 0 where
  pub named : AllByRecursion (λ row. AllByRecursion (HasName names) row.pattern) rows
  pub said : AreSaid threshold lines (map (named_row names) rows)
  pub differ : PatternsDiffer rows
  pub grown : GrowBy [] (names_of_lines lines) names
