-- Candidates that pass a sieve, each with what its sequences weigh.
use Rattle.std.specs.Prelude.{◌≡◌, ℕ, ◌+◌, ◌≤◌, ◌<◌, ◌↔◌, Bool, List, ◌∷◌, ◌++◌, length, Contains}
use Rattle.mine_model.specs.declared.item.Item.{Item}
use Rattle.mine_model.specs.Answer.{Data}
use Rattle.mine_model.specs.Support.{Sequence, Counts}
use Rattle.candidate_graph.specs.Graphs.{Node, IsExpanded}
use Rattle.candidate_graph.specs.Paths.{Reaches, Accepts}
use Rattle.prefix_sieve.specs.Hashes.{hash_of}
use Rattle.prefix_sieve.specs.Sieves.{HasCandidate, PassesAll}
use Rattle.prefix_counts.specs.Prefixes.{Prefixes}
use Rattle.prefix_counts.specs.Sums.{sum_of}

-- ---- one sequence

-- the list is that of a candidate, has at most so many ranks, and passes with all its prefixes
pub record IsCounted (levels : List (List Bool)) (longest : ℕ) (nodes : List Node) (list : List ℕ)
    : Type 0 where
  pub short : length list ≤ longest
  pub passes : PassesAll hash_of levels list
  pub accepted : Accepts nodes 0 list

-- Each candidate that passes with all its prefixes had the weight added to its sum, once; no other list had.
-- The edges of each prefix that passes so are known, but for those of the greatest length. Lists keep their
-- numbers, and what is new among them passes.
pub record HasCounted (levels : List (List Bool)) (weight longest : ℕ) (nodes : List Node)
    (before after : Prefixes)
    : Type 0 where
  pub known : (list : List ℕ) (number : ℕ) → length list < longest → PassesAll hash_of levels list
      → Reaches nodes 0 list number → IsExpanded nodes number
  pub kept : (more : List (List ℕ)) × (after.lists ≡ before.lists ++ more)
      × ((list : List ℕ) → Contains more list → PassesAll hash_of levels list)
  pub counted : (list : List ℕ) → IsCounted levels longest nodes list
      → sum_of after list ≡ sum_of before list + weight
  pub others : (list : List ℕ) → (IsCounted levels longest nodes list → ⊥)
      → sum_of after list ≡ sum_of before list

-- ---- all sequences

-- the edges are known of each prefix of the list that is shorter than it
abbrev pub IsKnownAlong : List Node → List ℕ → Type 0
IsKnownAlong nodes list = (before : List ℕ) (rank : ℕ) (behind : List ℕ) (number : ℕ)
    → list ≡ before ++ rank ∷ behind → Reaches nodes 0 before number → IsExpanded nodes number

-- where they are known, the list is that of a path of the graph just where it is that of a candidate
abbrev pub LeadsToCandidates : Data Item → List Item → List Item → List Node → Type 0
LeadsToCandidates d order items nodes =
    (list : List ℕ) → IsKnownAlong nodes list → Accepts nodes 0 list ↔ HasCandidate d order list items

-- the candidates of the items have at most so many ranks
abbrev pub AreShort : Data Item → List Item → List Item → ℕ → Type 0
AreShort d order items longest = (list : List ℕ) → HasCandidate d order list items → length list ≤ longest

-- The sum of each list that passes is what the sequences weigh that have the candidate. No other list has a
-- sum.
pub record AreCounted (d : Data Item) (order : List Item) (levels : List (List Bool))
    (sequences : List (Sequence Item)) (prefixes : Prefixes)
    : Type 0 where
  pub exact : (list : List ℕ) → PassesAll hash_of levels list
      → Counts (HasCandidate d order list) sequences (sum_of prefixes list)
  pub none : (list : List ℕ) → (PassesAll hash_of levels list → ⊥) → sum_of prefixes list ≡ 0
