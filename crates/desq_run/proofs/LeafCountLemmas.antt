-- An expression that is not refused has not too many leaves once its repetitions are written out.
use Rattle.std.proofs.Common.{◌≡◌, inl, inr, ℕ, ◌≤◌, ◌<◌, min, nat_lt, List, refl, sym, ap, ◌∙◌, subst, arith}
use Rattle.std.proofs.lemmas.Bool.{cases_Bool}
use Rattle.std.proofs.lemmas.Bool.Decides.{nat_tests}
use Rattle.mine_model.specs.declared.item.Item.{Item}
use Rattle.mine_model.specs.declared.fault.Fault.{Fault}
use Rattle.mine_model.specs.declared.fault.Fault.TheVariants.{TooManyLeaves}
use Rattle.mine_model.specs.Limits.{most_leaves, most_told_leaves}
use Rattle.mine_model.specs.Expression.{Tree, tree_by, unfolded_leaves}
use Rattle.mine_model.specs.Grammar.{Use, ReadsAs}
use Rattle.mine_model.specs.Names.{name_of}
use Rattle.mine_model.specs.First.{FirstOf}
use Rattle.mine_model.specs.Refusal.{IsExpressionRefusal}
use Rattle.mine_model.proofs.NumberingLemmas.{unfolded_leaves-by}
use Rattle.patex_parser.specs.Parsing.{use_at, named_tree}

-- where nothing is refused first, nothing is refused behind it
behind : {First Second : Fault → Type 0} → ((fault : Fault) → FirstOf First Second fault → ⊥) → (fault : Fault) → Second fault → ⊥
behind accepted fault is = accepted fault (inr ((λ other first. accepted other (inl first)), is))

-- a text that reads as a tree and is not refused
pub leaves_few : (text : List ℕ) (tree : Tree Use) → ReadsAs text tree → ((fault : Fault) → IsExpressionRefusal text fault → ⊥)
    → unfolded_leaves tree ≤ most_leaves
leaves_few text tree (tokens, are, reads) accepted =
    elim (cases_Bool (nat_lt most_leaves (unfolded_leaves tree))) [
      | inl many ↦
          let more : most_leaves < unfolded_leaves tree = grind (arith, nat_tests, many) in
          absurd (behind (behind (behind (behind (behind (behind accepted)))))
          (TooManyLeaves (min (unfolded_leaves tree) most_told_leaves)) (tokens, tree, are, reads, more, refl))
      | inr few ↦ grind (arith, nat_tests, few)
    ]

-- the leaves of a tree that was parsed, over its uses
pub parsed_leaves : (text : List ℕ) (uses : List Use) (tree : Tree Item) → ReadsAs text (tree_by (use_at uses) tree)
    → ((fault : Fault) → IsExpressionRefusal text fault → ⊥) → unfolded_leaves tree ≤ most_leaves
parsed_leaves text uses tree reads accepted =
    subst (λ n. n ≤ most_leaves) (unfolded_leaves-by (use_at uses) tree) (leaves_few text (tree_by (use_at uses) tree) reads accepted)

-- the leaves of a tree that was resolved
pub resolved_leaves : (names : List (List ℕ)) (uses : List Use) (tree parsed : Tree Item) → tree_by (name_of names) tree ≡ named_tree uses parsed
    → unfolded_leaves tree ≡ unfolded_leaves parsed
resolved_leaves names uses tree parsed same =
    sym (unfolded_leaves-by (name_of names) tree) ∙ ap (λ t. unfolded_leaves t) same
    ∙ unfolded_leaves-by (λ (u : Use). u.name) (tree_by (use_at uses) parsed) ∙ unfolded_leaves-by (use_at uses) parsed
