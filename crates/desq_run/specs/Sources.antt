-- What a command mines by: an expression, or a rule of gaps and lengths. A merge mines nothing.
use Rattle.std.specs.Prelude.{◌≡◌, ℕ, ◌<◌, min, List, Contains}
use Rattle.mine_model.specs.declared.fault.Fault.{Fault}
use Rattle.mine_model.specs.declared.fault.Fault.TheVariants.{TooManyLeaves}
use Rattle.mine_model.specs.Limits.{most_leaves, most_told_leaves}
use Rattle.mine_model.specs.Expression.{Tree, named_in, tree_by}
use Rattle.mine_model.specs.Grammar.{Use, ReadsAs}
use Rattle.mine_model.specs.Refusal.{IsExpressionRefusal, IsUnknown}
use Rattle.gap_front.specs.Embedding.{leaves_of, tree_of_rule}
use Rattle.command_line.specs.Words.{Source, read, embed, make, merge}

-- the first refusal of an expression; a rule is refused where its expression would have too many leaves
abbrev pub IsSourceRefusal : Source → Fault → Type 0
IsSourceRefusal (read expression file) fault = IsExpressionRefusal expression fault
IsSourceRefusal (embed rule file) fault = (most_leaves < leaves_of rule)
    × (fault ≡ TooManyLeaves (min (leaves_of rule) most_told_leaves))
IsSourceRefusal (make count expression) fault = IsExpressionRefusal expression fault
IsSourceRefusal (merge files) fault = ⊥

-- the use of a name, where it stands in the expression; a rule names nothing
abbrev pub HasUse : Source → Use → Type 0
HasUse (read expression file) u = (tree : Tree Use) × ReadsAs expression tree × Contains (named_in tree) u
HasUse (embed rule file) u = ⊥
HasUse (make count expression) u =
    (tree : Tree Use) × ReadsAs expression tree × Contains (named_in tree) u
HasUse (merge files) u = ⊥

-- the first use of a name that is not known
abbrev pub IsUnknownIn : List (List ℕ) → Source → Fault → Type 0
IsUnknownIn known (read expression file) fault = (tree : Tree Use) × ReadsAs expression tree
    × IsUnknown known (named_in tree) fault
IsUnknownIn known (embed rule file) fault = ⊥
IsUnknownIn known (make count expression) fault = (tree : Tree Use) × ReadsAs expression tree
    × IsUnknown known (named_in tree) fault
IsUnknownIn known (merge files) fault = ⊥

-- the tree over names whose search is counted
abbrev pub SaysTree : Source → Tree (List ℕ) → Type 0
SaysTree (read expression file) tree = (uses : Tree Use) × ReadsAs expression uses
    × (tree ≡ tree_by (λ (u : Use). u.name) uses)
SaysTree (embed rule file) tree = tree ≡ tree_of_rule rule
SaysTree (make count expression) tree = (uses : Tree Use) × ReadsAs expression uses
    × (tree ≡ tree_by (λ (u : Use). u.name) uses)
SaysTree (merge files) tree = ⊥
