-- What a walk over the candidates of one sequence goes along, and what it leaves behind.
use Rattle.std.specs.Prelude.{◌≡◌, ◌≢◌, ℕ, ◌+◌, ◌<◌, Bool, IsTrue, Option, Some, List, [], ◌∷◌, ◌++◌, length, slice_get, AllPairs, Contains}
use Rattle.candidate_graph.specs.declared.edge.Edge.{Edge}
use Rattle.candidate_graph.specs.Graphs.{Node, IsExpanded}
use Rattle.candidate_graph.specs.Paths.{HasEdge, Reaches}
use Rattle.prefix_sieve.specs.Hashes.{start, hash_of}
use Rattle.prefix_sieve.specs.Sieves.{lets_pass, PassesAll}
use Rattle.prefix_counts.specs.Prefixes.{Prefixes}
use Rattle.sieved_counts.specs.declared.fronts.Front.{Front}
use Rattle.prefix_counts.specs.Sums.{sum_of}

-- ---- fronts

-- that of the empty list
abbrev pub root_front : Front
root_front = record { node = 0; number = 0; hash = start }

-- the front has the number of the list and its hash
pub record IsFrontOf (lists : List (List ℕ)) (list : List ℕ) (front : Front) : Type 0 where
  pub number : slice_get lists front.number ≡ Some list
  pub hash : front.hash ≡ hash_of list

-- They are the fronts of these lists with their nodes, each list there once.
pub record AreFronts (IsAmong : List ℕ → ℕ → Type 0) (lists : List (List ℕ)) (fronts : List Front)
    : Type 0 where
  pub each : (front : Front) → Contains fronts front
      → (list : List ℕ) × IsFrontOf lists list front × IsAmong list front.node
  pub all : (list : List ℕ) (node : ℕ) → IsAmong list node
      → (front : Front) × Contains fronts front × IsFrontOf lists list front × (front.node ≡ node)
  pub apart : AllPairs (λ one other. one.number ≢ other.number) fronts

abbrev pub AreWithin : List Node → List Front → Type 0
AreWithin nodes fronts = (front : Front) → Contains fronts front → front.node < length nodes

-- a list of this length passes with all its prefixes, and leads to the node
abbrev pub IsAt : List (List Bool) → List Node → ℕ → List ℕ → ℕ → Type 0
IsAt levels nodes count list node =
    (length list ≡ count) × PassesAll hash_of levels list × Reaches nodes 0 list node

-- they are the fronts of all such lists
pub record AreFrontsAt (levels : List (List Bool)) (nodes : List Node) (count : ℕ) (lists : List (List ℕ))
    (here : List Front) : Type 0 where
  pub within : AreWithin nodes here
  pub fronts : AreFronts (IsAt levels nodes count) lists here

-- ---- steps

-- the list with the rank of the edge behind it passes
abbrev pub IsLonger : Option (List Bool) → List ℕ → List ℕ → Edge → Type 0
IsLonger level list longer edge =
    (longer ≡ list ++ edge.rank ∷ []) × IsTrue (lets_pass level (hash_of longer))

-- it is the list of one of the fronts with the rank of one of its edges behind it, and passes
abbrev pub IsBehind : Option (List Bool) → List Node → List (List ℕ) → List Front → List ℕ → Edge → Type 0
IsBehind level nodes lists here longer edge =
    (front : Front) × (list : List ℕ) × Contains here front × IsFrontOf lists list front
    × HasEdge nodes front.node edge.rank edge × IsLonger level list longer edge

-- The walk went on to these lists, by these last edges: their fronts stand behind the old ones, those that
-- can end with the edge had the weight added, and no other list had.
pub record HasGone (IsLed : List ℕ → Edge → Type 0) (weight : ℕ) (before after : Prefixes)
    (old new : List Front)
    : Type 0 where
  pub fronts : (more : List Front) × (new ≡ old ++ more)
      × AreFronts (λ list node. (edge : Edge) × IsLed list edge × (edge.next ≡ node)) after.lists more
  pub kept : (more : List (List ℕ)) × (after.lists ≡ before.lists ++ more)
      × ((list : List ℕ) → Contains more list → (edge : Edge) × IsLed list edge)
  pub counted : (list : List ℕ) (edge : Edge) → IsLed list edge → IsTrue edge.ends
      → sum_of after list ≡ sum_of before list + weight
  pub others : (list : List ℕ) → ((edge : Edge) → IsLed list edge → IsTrue edge.ends → ⊥)
      → sum_of after list ≡ sum_of before list

-- it went so by the edges of one front, which are known
pub record HasGoneBehind (level : Option (List Bool)) (weight : ℕ) (nodes : List Node) (front : Front)
    (list : List ℕ) (before after : Prefixes) (old new : List Front)
    : Type 0 where
  pub known : IsExpanded nodes front.node
  pub within : AreWithin nodes old → AreWithin nodes new
  pub gone : HasGone
      (λ longer edge. HasEdge nodes front.node edge.rank edge × IsLonger level list longer edge) weight before
      after old new

-- it went so by the edges of all these fronts
pub record HasGoneOn (level : Option (List Bool)) (weight : ℕ) (nodes : List Node) (here : List Front)
    (before after : Prefixes) (next : List Front)
    : Type 0 where
  pub known : (front : Front) → Contains here front → IsExpanded nodes front.node
  pub within : AreWithin nodes next
  pub gone : HasGone (IsBehind level nodes before.lists here) weight before after [] next
