-- The texts of fields, and the items that have them as names.
use Rattle.std.specs.Prelude.{◌≡◌, ℕ, List, map}
use Rattle.std.specs.List.{AllByRecursion, slice_range}
use Rattle.mine_model.specs.declared.item.Item.{Item}
use Rattle.mine_model.specs.Names.{name_of, HasName}
use Rattle.text_ports.specs.declared.lines.Span.{Span}

-- the texts that the spans cut out of a line
abbrev pub texts_at : List ℕ → List Span → List (List ℕ)
texts_at line spans = map (λ span. slice_range line span.from span.to) spans

-- the items have these names
pub record AreItemsOf (names : List (List ℕ)) (items : List Item) (texts : List (List ℕ)) : Type 0 where
  pub named : AllByRecursion (HasName names) items
  pub said : map (name_of names) items ≡ texts
