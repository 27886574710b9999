-- Expressions and answers of the code, over the numbers of names.
use Rattle.std.specs.Prelude.{◌≢◌, ◌↔◌, List, AllPairs, Contains}
use Rattle.mine_model.specs.declared.item.Item.{Item}
use Rattle.mine_model.specs.declared.row.Row.{Row}
use Rattle.mine_model.specs.declared.expression.Leaf.{Leaf as ItemLeaf}
use Rattle.mine_model.specs.declared.expression.Leaf.TheVariants.{Under, Exact, Climb, Forced, Any, AnyClimb, Not, NotExact}
use Rattle.mine_model.specs.declared.expression.Expr.{Expr}
use Rattle.mine_model.specs.declared.expression.Expr.TheVariants.{Leaf as LeafExpr, Cat', Alt', Rep', Cap'}
use Rattle.mine_model.specs.Expression.{Leaf, under, exact, climb, forced, any, any_climb, not_under, not_exact, Tree, leaf, cat, alt, rep, cap}
use Rattle.mine_model.specs.Answer.{Data, IsFrequent}

-- the item expression that the code holds
abbrev pub leaf_of : ItemLeaf → Leaf Item
leaf_of (Under w) = under w
leaf_of (Exact w) = exact w
leaf_of (Climb w) = climb w
leaf_of (Forced w) = forced w
leaf_of Any = any
leaf_of AnyClimb = any_climb
leaf_of (Not w) = not_under w
leaf_of (NotExact w) = not_exact w

-- the tree that the code holds, without where its parts lie in memory
abbrev pub tree_of : Expr → Tree Item
tree_of (LeafExpr l) = leaf (leaf_of l)
tree_of (Cat' p left q right) = cat (tree_of left) (tree_of right)
tree_of (Alt' p left q right) = alt (tree_of left) (tree_of right)
tree_of (Rep' p inner least most) = rep (tree_of inner) least most
tree_of (Cap' p inner) = cap (tree_of inner)

-- no two of the rows have one pattern
abbrev pub PatternsDiffer : List Row → Type 0
PatternsDiffer rows = AllPairs (λ first second. first.pattern ≢ second.pattern) rows

-- the rows are exactly the frequent patterns, each once, in any order
pub record AreFrequent (d : Data Item) (rows : List Row) : Type 0 where
  pub once : PatternsDiffer rows
  pub frequent : (row : Row) → Contains rows row ↔ IsFrequent d row.pattern row.support
