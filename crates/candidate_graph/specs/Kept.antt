-- What the graph keeps, and what is found on the way.
use Rattle.std.specs.Prelude.{◌≡◌, ◌≢◌, ℕ, ◌+◌, ◌≤◌, ◌<◌, ◌↔◌, false, IsTrue, if◌then◌else◌, Option, Some, None, List, [], ◌∷◌, length, AllPairs, Contains, slice_get, slice_index_or, slice_range}
use Rattle.place_walk.specs.declared.stand.Stand.{Stand}
use Rattle.place_walk.specs.declared.visit.Visit.{Visit}
use Rattle.stand_sums.specs.declared.aim.Aim.{Aim}
use Rattle.stand_sums.specs.declared.next_rank.NextRank.{NextRank}
use Rattle.stand_sums.specs.Aims.{sees}
use Rattle.stand_sums.specs.Writings.{Ranks, ends, follows}
use Rattle.stand_sums.specs.Sequences.{HasOne}
use Rattle.stand_sums.specs.Sums.{stands_among, AreLaidOut}
use Rattle.stand_sums.specs.Files.{stands_in}
use Rattle.candidate_graph.specs.declared.edge.Edge.{Edge}
use Rattle.candidate_graph.specs.declared.span.Span.{Span}
use Rattle.candidate_graph.specs.Graphs.{Standpoint, Node}

-- ---- edges in one list

-- no edges are known
abbrev pub unknown : Span
unknown = record { first = 0; last = 0; known = false }

abbrev pub span_at : List Span → ℕ → Span
span_at spans number = slice_index_or spans number unknown

abbrev pub edges_in : List Edge → Span → Option (List Edge)
edges_in edges span = if span.known then Some (slice_range edges span.first span.last) else None

-- the nodes with these standpoints, and with the edges that are known
abbrev pub nodes_of : List Edge → List Standpoint → List Span → List Node
nodes_of edges [] spans = []
nodes_of edges (at ∷ points) [] = record { at = at; edges = None } ∷ nodes_of edges points []
nodes_of edges (at ∷ points) (span ∷ spans) =
    record { at = at; edges = edges_in edges span } ∷ nodes_of edges points spans

-- what is known is of a node, and lies within the list
pub record IsSpan (count : ℕ) (edges : List Edge) (number : ℕ) (span : Span) : Type 0 where
  pub inside : number < count
  pub forward : span.first ≤ span.last
  pub within : span.last ≤ length edges

abbrev pub AreSpans : ℕ → List Edge → List Span → Type 0
AreSpans count edges spans =
    (number : ℕ) → IsTrue (span_at spans number).known → IsSpan count edges number (span_at spans number)

-- one span is set, and all others are as they were
pub record IsSet (before now : List Span) (number : ℕ) (span : Span) : Type 0 where
  pub here : span_at now number ≡ span
  pub others : (other : ℕ) → other ≢ number → span_at now other ≡ span_at before other

-- ---- ranks that follow

-- what is found of a rank that follows
pub record IsFound (ranks : Ranks) (aim : Aim) (visits : List Visit) (next : NextRank) : Type 0 where
  pub follows : HasOne (follows ranks aim next.rank) visits
  pub ends : (1 ≤ next.support) ↔ HasOne (ends ranks aim next.rank) visits
  pub places : next.last ≡ next.first + stands_among ranks aim next.rank visits

-- exactly the ranks that follow, rising, all below the end
pub record AreFound (ranks : Ranks) (aim : Aim) (end : ℕ) (visits : List Visit) (found : List NextRank)
    : Type 0 where
  pub rising : AllPairs (λ low high. low.rank < high.rank) found
  pub laid_out : (end : ℕ) × AreLaidOut 0 found end
  pub right : (next : NextRank) → Contains found next → IsFound ranks aim visits next
  pub all : (rank : ℕ) → HasOne (follows ranks aim rank) visits
      → (next : NextRank) × Contains found next × (next.rank ≡ rank)
  pub within : (next : NextRank) → Contains found next → next.rank < end

-- the stands of each rank lie at its places
abbrev pub AreInRun : Ranks → Aim → List Visit → List NextRank → List Stand → Type 0
AreInRun ranks aim visits found run =
    (next : NextRank) → Contains found next
    → slice_range run next.first next.last ≡ stands_in ranks aim next.rank visits

-- ---- edges that are made

-- the standpoint of the prefix with the rank, whose stands are a piece of the run
abbrev pub point_in : Aim → List Stand → NextRank → Standpoint
point_in aim run next = record { seen = sees aim next.rank; stands = slice_range run next.first next.last }

pub record IsMade (points : List Standpoint) (aim : Aim) (run : List Stand) (next : NextRank) (edge : Edge)
    : Type 0 where
  pub rank : edge.rank ≡ next.rank
  pub ends : IsTrue edge.ends ↔ (1 ≤ next.support)
  pub leads : slice_get points edge.next ≡ Some (point_in aim run next)

-- edges of the first so many ranks were put behind so many others
pub record AreMade (points : List Standpoint) (aim : Aim) (run : List Stand) (found : List NextRank)
    (count base : ℕ) (edges : List Edge)
    : Type 0 where
  pub long : length edges ≡ base + count
  pub each : (k : ℕ) (next : NextRank) → k < count → slice_get found k ≡ Some next
      → (edge : Edge) × (slice_get edges (base + k) ≡ Some edge) × IsMade points aim run next edge
