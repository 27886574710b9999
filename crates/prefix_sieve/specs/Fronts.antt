-- What a pass over the candidates of one sequence goes along, and what it leaves behind.
use Rattle.std.specs.Prelude.{◌≡◌, ℕ, ◌≤◌, ◌<◌, ◌⊎◌, Bool, IsTrue, Option, List, [], ◌∷◌, ◌++◌, length, Contains}
use Rattle.mine_model.specs.declared.item.Item.{Item}
use Rattle.mine_model.specs.Answer.{Data}
use Rattle.candidate_graph.specs.declared.edge.Edge.{Edge}
use Rattle.candidate_graph.specs.Graphs.{Node, IsExpanded}
use Rattle.candidate_graph.specs.Paths.{HasEdge, Reaches}
use Rattle.prefix_sieve.specs.declared.fronts.Front.{Front}
use Rattle.prefix_sieve.specs.Buckets.{capped, sum_of, AreNoLess}
use Rattle.prefix_sieve.specs.Hashes.{start, mixed, hash_of}
use Rattle.prefix_sieve.specs.Sieves.{HasBehind, lets_pass, PassesAll}

-- ---- the promise

-- The edges of each prefix are known all of whose prefixes passed, and that has as many ranks as there are
-- levels or fewer. No sum is less than before; and where the prefix has as many ranks, each of its edges had
-- the weight added to the bucket of the prefix with its rank.
pub record IsPassed (levels : List (List Bool)) (weight : ℕ) (nodes : List Node) (before after : List ℕ)
    : Type 0 where
  pub known : (list : List ℕ) (number : ℕ) → length list ≤ length levels → PassesAll hash_of levels list
      → Reaches nodes 0 list number → IsExpanded nodes number
  pub never_less : AreNoLess before after
  pub raised : (list : List ℕ) (number : ℕ) → length list ≡ length levels → PassesAll hash_of levels list
      → Reaches nodes 0 list number → (rank : ℕ) (edge : Edge) → HasEdge nodes number rank edge
      → capped (sum_of before (hash_of (list ++ rank ∷ []))) weight
      ≤ sum_of after (hash_of (list ++ rank ∷ []))

-- Where the edges of a prefix are known, there is one for each rank with which it begins a candidate.
abbrev pub LeadsToAll : Data Item → List Item → List Item → List Node → Type 0
LeadsToAll d order items nodes = (prefix : List ℕ) (number : ℕ) → Reaches nodes 0 prefix number
    → IsExpanded nodes number → (rank : ℕ) → HasBehind d order (prefix ++ rank ∷ []) items
    → (edge : Edge) × HasEdge nodes number rank edge

-- ---- fronts

-- that of the empty prefix
abbrev pub root_front : Front
root_front = record { node = 0; hash = start }

-- that of the prefix with the rank of the edge
abbrev pub front_behind : Front → Edge → Front
front_behind front edge = record { node = edge.next; hash = mixed front.hash edge.rank }

-- the front stands behind those of before, if it passes
pub record IsAdded (passes : Bool) (front : Front) (before after : List Front) : Type 0 where
  pub keeps : (other : Front) → Contains before other → Contains after other
  pub others : (other : Front) → Contains after other → Contains before other ⊎ (other ≡ front)
  pub here : IsTrue passes → Contains after front

-- so those behind the front by these edges
pub record AreAdded (level : Option (List Bool)) (front : Front) (edges : List Edge)
    (before after : List Front)
    : Type 0 where
  pub keeps : (other : Front) → Contains before other → Contains after other
  pub others : (other : Front) → Contains after other
      → Contains before other ⊎ ((edge : Edge) × Contains edges edge × (other ≡ front_behind front edge))
  pub here : (edge : Edge) → Contains edges edge → IsTrue (lets_pass level (mixed front.hash edge.rank))
      → Contains after (front_behind front edge)

-- the edges of the front are known, and those behind it that pass are there
pub record IsGone (level : Option (List Bool)) (nodes : List Node) (front : Front) (next : List Front)
    : Type 0 where
  pub known : IsExpanded nodes front.node
  pub passing : (rank : ℕ) (edge : Edge) → HasEdge nodes front.node rank edge
      → IsTrue (lets_pass level (mixed front.hash edge.rank)) → Contains next (front_behind front edge)

abbrev pub AreWithin : List Node → List Front → Type 0
AreWithin nodes fronts = (front : Front) → Contains fronts front → front.node < length nodes

pub record HasGone (level : Option (List Bool)) (nodes : List Node) (front : Front)
    (before after : List Front)
    : Type 0 where
  pub keeps : (other : Front) → Contains before other → Contains after other
  pub within : AreWithin nodes before → AreWithin nodes after
  pub gone : IsGone level nodes front after

pub record AreGone (level : Option (List Bool)) (nodes : List Node) (here next : List Front) : Type 0 where
  pub within : AreWithin nodes next
  pub each : (front : Front) → Contains here front → IsGone level nodes front next

-- they are the fronts of all prefixes of this length that pass with all their prefixes, and the edges of all
-- shorter ones are known
pub record AreFronts (levels : List (List Bool)) (nodes : List Node) (count : ℕ) (fronts : List Front)
    : Type 0 where
  pub within : AreWithin nodes fronts
  pub all : (list : List ℕ) (number : ℕ) → length list ≡ count → PassesAll hash_of levels list
      → Reaches nodes 0 list number → Contains fronts (record { node = number; hash = hash_of list })
  pub known : (list : List ℕ) (number : ℕ) → length list < count → PassesAll hash_of levels list
      → Reaches nodes 0 list number → IsExpanded nodes number

-- ---- sums

-- no sum is less, and the bucket of the prefix with each of the edges has the weight more
pub record AreRaised (edges : List Edge) (hash weight : ℕ) (before after : List ℕ) : Type 0 where
  pub never_less : AreNoLess before after
  pub raised : (edge : Edge) → Contains edges edge
      → capped (sum_of before (mixed hash edge.rank)) weight ≤ sum_of after (mixed hash edge.rank)

-- so for the edges of the front, which are known
pub record HasRaisedBehind (nodes : List Node) (front : Front) (weight : ℕ) (before after : List ℕ)
    : Type 0 where
  pub known : IsExpanded nodes front.node
  pub never_less : AreNoLess before after
  pub raised : (rank : ℕ) (edge : Edge) → HasEdge nodes front.node rank edge
      → capped (sum_of before (mixed front.hash edge.rank)) weight ≤ sum_of after (mixed front.hash edge.rank)

pub record HaveRaised (nodes : List Node) (here : List Front) (weight : ℕ) (before after : List ℕ)
    : Type 0 where
  pub never_less : AreNoLess before after
  pub each : (front : Front) → Contains here front → HasRaisedBehind nodes front weight before after
