-- A tree whose labels are short has a level that is empty, and so a cover.
use Rattle.std.proofs.Common.{◌≡◌, ℕ, zero, suc, ◌<◌, ◌≤◌, ◌⊎◌, inl, inr, List, length, arith, Contains}
use Rattle.mine_model.proofs.ElementLemmas.{flat-cases, flat-held, no_members}
use Rattle.search_tree.specs.Cover.{GrowByOne, Covers, down_to, level, IsInTree, IsTree}
use Rattle.search_tree.proofs.TreeLemmas.{down_covers}

level-members : (roots : List (List ℕ)) (kids : List ℕ → List (List ℕ)) → GrowByOne kids → (Node : List ℕ → Type 0) → IsTree roots kids Node
    → (n : ℕ) (label : List ℕ) → Contains (level roots kids n) label → Node label × (n ≤ length label)
level-members roots kids longer Node tree zero label is = ((tree label).1 (inl is), omega arith)
level-members roots kids longer Node tree (suc n) label is =
    let (parent, held, kid) = flat-cases kids (level roots kids n) label is in
    let above : Node parent × (n ≤ length parent) = level-members roots kids longer Node tree n parent held in
    let long : length label ≡ suc (length parent) = longer parent label kid in
    let deep : n ≤ length parent = above.1 in
    ((tree label).1 (inr (parent, above.0, kid)), omega arith)

-- where all labels of the tree are shorter than n, its labels down to n are a cover
pub short_covers : (roots : List (List ℕ)) (kids : List ℕ → List (List ℕ)) → GrowByOne kids → (Node : List ℕ → Type 0) → IsTree roots kids Node
    → (n : ℕ) → ((label : List ℕ) → Node label → length label < n) → Covers roots kids (down_to roots kids n)
short_covers roots kids longer Node tree n short = down_covers roots kids n (no_members (level roots kids n) (λ label is.
    let both : Node label × (n ≤ length label) = level-members roots kids longer Node tree n label is in
    let deep : n ≤ length label = both.1 in
    let less : length label < n = short label both.0 in
    absurd (omega arith)))

from-level : (roots : List (List ℕ)) (kids : List ℕ → List (List ℕ)) (depth : ℕ) (label : List ℕ) → Contains (level roots kids depth) label
    → Contains roots label ⊎ ((parent : List ℕ) × IsInTree roots kids parent × Contains (kids parent) label)
from-level roots kids zero label held = inl held
from-level roots kids (suc depth) label held =
    let (parent, above, kid) = flat-cases kids (level roots kids depth) label held in inr (parent, (depth, above), kid)

-- the labels some steps below the roots are those of a tree
pub in_tree : (roots : List (List ℕ)) (kids : List ℕ → List (List ℕ)) → IsTree roots kids (IsInTree roots kids)
in_tree roots kids label = (
  (λ (depth, held). from-level roots kids depth label held),
  (λ from. elim from [
    | inl root ↦ (0, root)
    | inr below ↦ let (parent, above, kid) = below in (suc above.0, flat-held kids (level roots kids above.0) parent label above.1 kid)
  ]),
)

-- where all labels in the tree are shorter than n, it has a cover
pub short_tree : (roots : List (List ℕ)) (kids : List ℕ → List (List ℕ)) → GrowByOne kids → (n : ℕ)
    → ((label : List ℕ) → IsInTree roots kids label → length label < n) → Covers roots kids (down_to roots kids n)
short_tree roots kids longer n short = short_covers roots kids longer (IsInTree roots kids) (in_tree roots kids) n short
