-- What is said of items is decided.
use Rattle.std.proofs.Common.{◌==◌, ◌&&◌, ◌||◌, List, [], ◌∷◌, refl}
use Rattle.std.specs.Bool.{Decides}
use Rattle.std.proofs.lemmas.Bool.Decides.{Decides-like, Decides-not, Decides-and, Decides-or}
use Rattle.mine_model.specs.declared.item.Item.{Item}
use Rattle.mine_model.specs.Hierarchy.{Link, IsAncestor}
use Rattle.mine_model.specs.Expression.{Leaf, under, exact, climb, forced, any, any_climb, not_under, not_exact}
use Rattle.mine_model.specs.Generation.{Matches, MayWrite}
use Rattle.mine_model.specs.Decided.{is_above, matches, may_write}
use Rattle.mine_model.proofs.GenerationLemmas.{IsAncestor-none}
use Rattle.mine_model.proofs.WalkLemmas.{IsWalk-without, IsAncestor-with}
use Rattle.mine_model.proofs.ApartLemmas.{item_eq-Decides}

-- Links

pub above-Decides : (links : List (Link Item)) (w t : Item) → Decides (is_above links w t) (IsAncestor links w t)
unfolding is_above
above-Decides [] w t = Decides-like (t.0 == w.0) (λ same. ([], same)) (IsAncestor-none w t) (item_eq-Decides t w)
above-Decides (link ∷ links) w t =
    Decides-like (is_above links w t || (is_above links link.child t && is_above links w link.parent))
    (IsAncestor-with links link w t) (λ up. IsWalk-without links link t up.0 w up.1)
    (Decides-or (is_above links w t) (is_above links link.child t && is_above links w link.parent) (above-Decides links w t)
    (Decides-and (is_above links link.child t) (is_above links w link.parent) (above-Decides links link.child t) (above-Decides links w link.parent)))

-- Item expressions

pub matches-Decides : (links : List (Link Item)) (l : Leaf Item) (t : Item) → Decides (matches links l t) (Matches links l t)
unfolding matches
matches-Decides links (under w) t = above-Decides links w t
matches-Decides links (exact w) t = item_eq-Decides t w
matches-Decides links (climb w) t = above-Decides links w t
matches-Decides links (forced w) t = above-Decides links w t
matches-Decides links any t = ((λ e. tt), (λ u. refl))
matches-Decides links any_climb t = ((λ e. tt), (λ u. refl))
matches-Decides links (not_under w) t = Decides-not (is_above links w t) (above-Decides links w t)
matches-Decides links (not_exact w) t = Decides-not (t.0 == w.0) (item_eq-Decides t w)

pub may_write-Decides : (links : List (Link Item)) (l : Leaf Item) (t v : Item) → Decides (may_write links l t v) (MayWrite links l t v)
unfolding may_write
may_write-Decides links (under w) t v = item_eq-Decides v t
may_write-Decides links (exact w) t v = item_eq-Decides v w
may_write-Decides links (climb w) t v = Decides-and (is_above links v t) (is_above links w v) (above-Decides links v t) (above-Decides links w v)
may_write-Decides links (forced w) t v = item_eq-Decides v w
may_write-Decides links any t v = item_eq-Decides v t
may_write-Decides links any_climb t v = above-Decides links v t
may_write-Decides links (not_under w) t v = item_eq-Decides v t
may_write-Decides links (not_exact w) t v = item_eq-Decides v t
