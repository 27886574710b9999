-- A graph with the edges of one node more.
use Rattle.std.proofs.Common.{◌≡◌, ◌≢◌, ℕ, zero, suc, ◌<◌, ◌⊎◌, inl, inr, Bool, true, false, true≢false, IsTrue, Option, Some, List, [], ◌∷◌, ◌++◌, length, refl, sym, ap, ◌∙◌, subst, arith}
use Rattle.std.specs.List.{Contains, slice_get, slice_range}
use Rattle.std.proofs.lemmas.Bool.{cases_lt}
use Rattle.std.proofs.lemmas.Option.{same_Some}
use Rattle.std.proofs.lemmas.List.{length-append}
use Rattle.mine_model.proofs.ElementLemmas.{get-some, get-held, get-left}
use Rattle.place_walk.specs.declared.stand.Stand.{Stand}
use Rattle.place_walk.specs.Courses.{Course}
use Rattle.stand_sums.specs.declared.aim.Aim.{Aim}
use Rattle.stand_sums.specs.Writings.{Ranks}
use Rattle.candidate_graph.specs.declared.edge.Edge.{Edge}
use Rattle.candidate_graph.specs.declared.span.Span.{Span}
use Rattle.candidate_graph.specs.Courses.{Courses, course_in, AreStandsOn}
use Rattle.candidate_graph.specs.Graphs.{Standpoint, Node, points_of, aim_at, point_behind, AreEdges, IsGraph, IsExpanded, Grows}
use Rattle.candidate_graph.specs.Kept.{span_at, edges_in, nodes_of, IsSpan, AreSpans, IsSet}
use Rattle.candidate_graph.proofs.NodeLemmas.{node_with, points-are, node-at, node-from, nodes-long, known-edges, edges-known, edges-stay}
use Rattle.candidate_graph.proofs.PointLemmas.{same-on}

-- an element of a list that grew is an old or a new one
pub get-either : {X : Type 0} (xs ys : List X) (k : ℕ) (x : X) → slice_get (xs ++ ys) k ≡ Some x → (slice_get xs k ≡ Some x) ⊎ Contains ys x
get-either [] ys k x at = inr (get-held ys k x at)
get-either (y ∷ xs) ys zero x at = inl at
get-either (y ∷ xs) ys (suc k) x at = get-either xs ys k x at

same-number : (one other : ℕ) → (one ≡ other) ⊎ (one ≢ other)
same-number one other = elim (cases_lt one other) [
  | inl less ↦ inr (λ same. omega (arith, less, same))
  | inr most ↦ elim (cases_lt other one) [
    | inl less ↦ inr (λ same. omega (arith, less, same))
    | inr least ↦ inl (omega (arith, most, least))
  ]
]

-- edges lead to the same standpoints where there are more
pub edges-kept : (course : Course) (points more : List Standpoint) (ranks : Ranks) (aim : Aim) (stands : List Stand) (edges : List Edge)
    → AreEdges course points ranks aim stands edges → AreEdges course (points ++ more) ranks aim stands edges
edges-kept course points more ranks aim stands edges are = record {
  visits = are.visits;
  exact = are.exact;
  rising = are.rising;
  right = λ edge held.
      let is = are.right edge held in
      record {
        follows = is.follows;
        ends = is.ends;
        next = get-left points more edge.next (point_behind ranks aim edge.rank are.visits) is.next;
      };
  all = are.all;
}

module _ (points points' : List Standpoint) (edges edges' : List Edge) (spans : List Span) (inside : AreSpans (length points) edges spans) where
  abbrev before' : List Node
  before' = nodes_of edges points spans

  -- what is known stays so
  pub spans-kept : AreSpans (length (points ++ points')) (edges ++ edges') spans
  spans-kept number known =
      let is = inside number known in
      let low = is.inside in
      let most = is.within in
      record {
        inside = omega (arith, low, length-append points points');
        forward = is.forward;
        within = omega (arith, most, length-append edges edges');
      }

  -- the nodes keep what is known, where spans are kept
  module _ (spans' : List Span) (kept : (number : ℕ) → IsTrue (span_at spans number).known → span_at spans' number ≡ span_at spans number) where
    abbrev now' : List Node
    now' = nodes_of (edges ++ edges') (points ++ points') spans'

    pub nodes-grow : Grows before' now'
    nodes-grow number node is =
        let (at, edged) = node-from edges points spans number node is in
        let there : slice_get now' number ≡ Some (node_with (edges ++ edges') node.at (span_at spans' number)) =
        node-at (edges ++ edges') (points ++ points') spans' number node.at (get-left points points' number node.at at) in (
          node_with (edges ++ edges') node.at (span_at spans' number),
          there,
          refl,
          (λ list known.
              let (marked, same) = known-edges edges list (span_at spans number) (sym edged ∙ known) in
              ap (edges_in (edges ++ edges')) (kept number marked)
              ∙ edges-stay edges edges' (length points) number (span_at spans number) (inside number marked) ∙ sym edged ∙ known),
        )

module _ (courses : Courses) (ranks : Ranks) (need : Option ℕ) (points points' : List Standpoint) (edges edges' : List Edge) (spans : List Span)
    (inside : AreSpans (length points) edges spans) (graph : IsGraph courses ranks need (nodes_of edges points spans))
    (distinct : (one other : ℕ) (at : Standpoint) → slice_get (points ++ points') one ≡ Some at → slice_get (points ++ points') other ≡ Some at → one ≡ other)
    (on : (at : Standpoint) → Contains points' at → AreStandsOn (course_in courses at.seen) at.stands) where
  abbrev all' : List Standpoint
  all' = points ++ points'

  abbrev joined' : List Edge
  joined' = edges ++ edges'

  was : (number : ℕ) (at : Standpoint) → slice_get points number ≡ Some at → slice_get (points_of (nodes_of edges points spans)) number ≡ Some at
  was number at is = subst (λ (l : List Standpoint). slice_get l number ≡ Some at) (sym (points-are edges points spans)) is

  -- an old span still tells the edges of its node
  old-edges : (number : ℕ) (at : Standpoint) (list : List Edge) → slice_get all' number ≡ Some at → edges_in joined' (span_at spans number) ≡ Some list
      → AreEdges (course_in courses at.seen) all' ranks (aim_at at need) at.stands list
  old-edges number at list there known =
      let (marked, same) = known-edges joined' list (span_at spans number) known in
      let is = inside number marked in
      let (first, at_is) = get-some points number is.inside in
      let same_at : first ≡ at = same_Some first at (sym (get-left points points' number first at_is) ∙ there) in
      let known_was : edges_in edges (span_at spans number) ≡ Some list = sym (edges-stay edges edges' (length points) number (span_at spans number) is) ∙ known in
      let node : Node = node_with edges at (span_at spans number) in
      let node_is : slice_get (nodes_of edges points spans) number ≡ Some node =
      node-at edges points spans number at (subst (λ (a : Standpoint). slice_get points number ≡ Some a) same_at at_is) in
      let are : AreEdges (course_in courses at.seen) (points_of (nodes_of edges points spans)) ranks (aim_at at need) at.stands list =
      graph.edges number node list node_is known_was in
      edges-kept (course_in courses at.seen) points points' ranks (aim_at at need) at.stands list
      (subst (λ (l : List Standpoint). AreEdges (course_in courses at.seen) l ranks (aim_at at need) at.stands list) (points-are edges points spans) are)

  module _ (spans' : List Span)
      (right : (number : ℕ) (at : Standpoint) (list : List Edge) → slice_get all' number ≡ Some at → edges_in joined' (span_at spans' number) ≡ Some list
      → AreEdges (course_in courses at.seen) all' ranks (aim_at at need) at.stands list) where
    abbrev nodes' : List Node
    nodes' = nodes_of joined' all' spans'

    is-point : (number : ℕ) (at : Standpoint) → slice_get (points_of nodes') number ≡ Some at → slice_get all' number ≡ Some at
    is-point number at is = subst (λ (l : List Standpoint). slice_get l number ≡ Some at) (points-are joined' all' spans') is

    graph-with : IsGraph courses ranks need nodes'
    graph-with = record {
      distinct = λ one other at here there. distinct one other at (is-point one at here) (is-point other at there);
      on = λ number at is. elim (get-either points points' number at (is-point number at is)) [
        | inl old ↦ graph.on number at (was number at old)
        | inr new ↦ on at new
      ];
      edges = λ number node list is known.
          let (at, edged) = node-from joined' all' spans' number node is in
          subst (λ (l : List Standpoint). AreEdges (course_in courses node.at.seen) l ranks (aim_at node.at need) node.at.stands list) (sym (points-are joined' all' spans'))
          (right number node.at list at (sym edged ∙ known));
    }

  -- nodes and edges were added, and no node has new edges
  pub graph-same : (spans' : List Span) → ((number : ℕ) → span_at spans' number ≡ span_at spans number) → IsGraph courses ranks need (nodes_of joined' all' spans')
  graph-same spans' same = graph-with spans' (λ number at list there known.
      old-edges number at list there (ap (edges_in joined') (sym (same number)) ∙ known))

  -- one node has edges
  pub graph-set : (spans' : List Span) (number : ℕ) (span : Span) (at : Standpoint) → IsSet spans spans' number span → slice_get points number ≡ Some at
      → AreEdges (course_in courses at.seen) all' ranks (aim_at at need) at.stands (slice_range joined' span.first span.last)
      → IsGraph courses ranks need (nodes_of joined' all' spans')
  graph-set spans' number span at set here are = graph-with spans' (λ other at' list there known. elim (same-number other number) [
    | inl same ↦
        let there' : slice_get all' number ≡ Some at' = subst (λ (n : ℕ). slice_get all' n ≡ Some at') same there in
        let at_is : at ≡ at' = same_Some at at' (sym (get-left points points' number at here) ∙ there') in
        let span_is : span_at spans' other ≡ span = subst (λ (n : ℕ). span_at spans' n ≡ span) (sym same) set.here in
        let (marked, list_is) = known-edges joined' list span (ap (edges_in joined') (sym span_is) ∙ known) in
        subst (λ (a : Standpoint). AreEdges (course_in courses a.seen) all' ranks (aim_at a need) a.stands list) at_is
        (subst (AreEdges (course_in courses at.seen) all' ranks (aim_at at need) at.stands) (sym list_is) are)
    | inr apart ↦ old-edges other at' list there (ap (edges_in joined') (sym (set.others other apart)) ∙ known)
  ])

-- the span of a node whose edges are known
pub expanded-span : (edges : List Edge) (points : List Standpoint) (spans : List Span) → AreSpans (length points) edges spans → (number : ℕ)
    → IsExpanded (nodes_of edges points spans) number → IsSpan (length points) edges number (span_at spans number)
expanded-span edges points spans inside number (node, list, there, known) =
    let (at, edged) = node-from edges points spans number node there in
    let (marked, same) = known-edges edges list (span_at spans number) (sym edged ∙ known) in
    inside number marked

-- what it tells
pub expanded-edges : (edges : List Edge) (points : List Standpoint) (spans : List Span) (number : ℕ) (node : Node) (list : List Edge)
    → slice_get (nodes_of edges points spans) number ≡ Some node → node.edges ≡ Some list
    → list ≡ slice_range edges (span_at spans number).first (span_at spans number).last
expanded-edges edges points spans number node list there known =
    let (at, edged) = node-from edges points spans number node there in
    (known-edges edges list (span_at spans number) (sym edged ∙ known)).1

pub known-expanded : (edges : List Edge) (points : List Standpoint) (spans : List Span) → AreSpans (length points) edges spans → (number : ℕ)
    → (span_at spans number).known ≡ true → IsExpanded (nodes_of edges points spans) number
known-expanded edges points spans inside number known =
    let (at, there) = get-some points number (inside number known).inside in (
      node_with edges at (span_at spans number),
      slice_range edges (span_at spans number).first (span_at spans number).last,
      node-at edges points spans number at there,
      edges-known edges (span_at spans number) known,
    )

-- ---- spans that are set

pub spans-same : (count : ℕ) (edges : List Edge) (spans spans' : List Span) → ((number : ℕ) → span_at spans' number ≡ span_at spans number) → AreSpans count edges spans
    → AreSpans count edges spans'
spans-same count edges spans spans' same inside number known =
    subst (IsSpan count edges number) (sym (same number)) (inside number (subst (λ (s : Span). IsTrue s.known) (same number) known))

pub spans-set : (count : ℕ) (edges : List Edge) (spans spans' : List Span) (number : ℕ) (span : Span) → IsSet spans spans' number span → IsSpan count edges number span
    → AreSpans count edges spans → AreSpans count edges spans'
spans-set count edges spans spans' number span set is inside other known = elim (same-number other number) [
  | inl same ↦
      let span_is : span_at spans' other ≡ span = subst (λ (n : ℕ). span_at spans' n ≡ span) (sym same) set.here in
      subst (IsSpan count edges other) (sym span_is) (subst (λ (n : ℕ). IsSpan count edges n span) (sym same) is)
  | inr apart ↦
      let same = set.others other apart in
      subst (IsSpan count edges other) (sym same) (inside other (subst (λ (s : Span). IsTrue s.known) same known))
]

-- what was known is not touched where the one that is set was not
pub set-keeps : (spans spans' : List Span) (number : ℕ) (span : Span) → IsSet spans spans' number span → (span_at spans number).known ≡ false
    → (other : ℕ) → IsTrue (span_at spans other).known → span_at spans' other ≡ span_at spans other
set-keeps spans spans' number span set unknown' other known = elim (same-number other number) [
  | inl same ↦
      let no' : (span_at spans other).known ≡ false = subst (λ (n : ℕ). (span_at spans n).known ≡ false) (sym same) unknown' in
      absurd (true≢false (sym known ∙ no'))
  | inr apart ↦ set.others other apart
]

-- ---- one node

pub point-there : (edges : List Edge) (points : List Standpoint) (spans : List Span) (number : ℕ) → number < length (nodes_of edges points spans)
    → (at : Standpoint) × (slice_get points number ≡ Some at) × (slice_get (nodes_of edges points spans) number ≡ Some (node_with edges at (span_at spans number)))
point-there edges points spans number below =
    let long : length (nodes_of edges points spans) ≡ length points = nodes-long edges points spans in
    let (at, there) = get-some points number (omega (arith, below, long)) in
    (at, there, node-at edges points spans number at there)

-- edges that were found, by other names of the same things
pub edges-for : (one other : Course) (points now : List Standpoint) (ranks : Ranks) (need : Option ℕ) (seen seen' : Bool) (stands stands' : List Stand) (edges edges' : List Edge)
    → one ≡ other → points ≡ now → seen ≡ seen' → stands ≡ stands' → edges ≡ edges'
    → AreEdges one points ranks (record { seen = seen; need = need }) stands edges
    → AreEdges other now ranks (record { seen = seen'; need = need }) stands' edges'
edges-for one other points now ranks need seen seen' stands stands' edges edges' course_is points_is seen_is stands_is edges_are are =
    subst (λ (c : Course). AreEdges c now ranks (record { seen = seen'; need = need }) stands' edges') course_is
    (subst (λ (p : List Standpoint). AreEdges one p ranks (record { seen = seen'; need = need }) stands' edges') points_is
    (subst (λ (b : Bool). AreEdges one points ranks (record { seen = b; need = need }) stands' edges') seen_is
    (subst (λ (l : List Stand). AreEdges one points ranks (record { seen = seen; need = need }) l edges') stands_is
    (subst (AreEdges one points ranks (record { seen = seen; need = need }) stands) edges_are are))))

-- new standpoints can be gone on from whatever was seen there
pub on-courses : (courses : Courses) (seen : Bool) (course : Course) (points : List Standpoint) → course_in courses seen ≡ course
    → ((at : Standpoint) → Contains points at → AreStandsOn course at.stands) → (at : Standpoint) → Contains points at → AreStandsOn (course_in courses at.seen) at.stands
on-courses courses seen course points same on at held =
    same-on course (course_in courses at.seen) at.stands (ap (λ (c : Course). length c.rows) (sym same)) (ap (λ (c : Course). length c.places) (sym same)) (on at held)
