-- The text of an answer. This program's own format.
use Rattle.std.specs.Prelude.{ℕ, List, [], ◌∷◌, ◌++◌}
use Rattle.std.specs.List.{flat_map, join_with_byte}
use Rattle.std.specs.Fmt.{decimal}
use Rattle.mine_model.specs.Bytes.{tab, space, line_feed}
use Rattle.mine_model.specs.Answer.{NamedRow}

-- the support in decimal, a tab, the names joined by one space, a line feed
abbrev pub line_of : NamedRow → List ℕ
line_of row = decimal row.support ++ tab ∷ join_with_byte space row.pattern ++ line_feed ∷ []

abbrev pub text_of : List NamedRow → List ℕ
text_of rows = flat_map line_of rows
