-- What is said of items, as functions: there is no excluded middle, so a computed tree rests on them.
use Rattle.std.specs.Prelude.{◌==◌, Bool, true, not, ◌&&◌, ◌||◌, List, [], ◌∷◌}
use Rattle.mine_model.specs.declared.item.Item.{Item}
use Rattle.mine_model.specs.Hierarchy.{Link}
use Rattle.mine_model.specs.Expression.{Leaf, under, exact, climb, forced, any_climb, not_under, not_exact}

-- w is t or stands above t: over one more link, a walk takes that link once or never
unfoldable pub is_above : List (Link Item) → Item → Item → Bool
is_above [] w t = t.0 == w.0
is_above (link ∷ links) w t =
    is_above links w t || (is_above links link.child t && is_above links w link.parent)

-- an item expression matches the item
unfoldable pub matches : List (Link Item) → Leaf Item → Item → Bool
matches links (under w) t = is_above links w t
matches links (exact w) t = t.0 == w.0
matches links (climb w) t = is_above links w t
matches links (forced w) t = is_above links w t
matches links (not_under w) t = not (is_above links w t)
matches links (not_exact w) t = not (t.0 == w.0)
matches links _ t = true

-- a captured item expression may write v at t
unfoldable pub may_write : List (Link Item) → Leaf Item → Item → Item → Bool
may_write links (exact w) t v = v.0 == w.0
may_write links (climb w) t v = is_above links v t && is_above links w v
may_write links (forced w) t v = v.0 == w.0
may_write links any_climb t v = is_above links v t
may_write links _ t v = v.0 == t.0
