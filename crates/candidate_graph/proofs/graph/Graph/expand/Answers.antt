use Rattle.std.proofs.Common.{◌≡◌, ◌∙◌, ◌++◌, ℕ, true, false, Some, List, length, refl, sym, ap, subst, arith, rules}
use Rattle.std.specs.List.{slice_get, slice_range}
use Rattle.std.proofs.lemmas.List.{length-append}
use Rattle.place_walk.specs.Courses.{course_of}
use Rattle.candidate_graph.specs.declared.edge.Edge.{Edge}
use Rattle.candidate_graph.specs.declared.span.Span.{Span}
use Rattle.candidate_graph.specs.Courses.{Courses, course_in, AreStandsOn, IsGround}
use Rattle.candidate_graph.specs.Graphs.{Standpoint, Node, GraphValue, AreEdges, IsGraph, IsExpanded}
use Rattle.candidate_graph.specs.Kept.{span_at, nodes_of, IsSpan, AreSpans}
use Rattle.candidate_graph.proofs.NodeLemmas.{node_with, nodes-long, node-from}
use Rattle.candidate_graph.proofs.GraphLemmas.{nodes-grow, spans-kept, graph-same, graph-set, known-expanded, spans-same, spans-set, set-keeps, point-there, edges-for, on-courses}
use Rattle.candidate_graph.proofs.graph.Graph.expand.Given.{Over}
use Rattle.candidate_graph.proofs.graph.Graph.expand.Goals as goal
use Rattle.candidate_graph.proofs.graph.Graph.expand.Goals.{After-len-count, In_ok-set_span}

pub returns-then-span_at-clause-expanded : goal.returns-then-span_at-clause-expanded
returns-then-span_at-clause-expanded g c =
    let known : (span_at c.self.inside.spans.items c.args.node).known ≡ true =
    ap (λ (l : List Span). (span_at l c.args.node).known) (sym c.as_slice.ensures.value) ∙ ap (λ (s : Span). s.known) (sym c.span_at.ensures) ∙ c.if-span_at.true in
    subst (λ (v : GraphValue). IsExpanded v.nodes c.args.node) c.self.view_is
    (known-expanded c.self.inside.edges.items c.self.inside.nodes c.self.inside.spans.items c.self.invariant.0 c.args.node known)

pub seen-requires : goal.seen-requires
seen-requires g c =
    let view = ap (λ (v : GraphValue). length v.nodes) c.self.view_is in
    let node = c.requires.node in
    omega (arith, node, view, nodes-long c.self.inside.edges.items c.self.inside.nodes c.self.inside.spans.items)

pub read-requires : goal.read-requires
read-requires g c =
    let view = ap (λ (v : GraphValue). length v.nodes) c.self.view_is in
    let node = c.requires.node in
    omega (arith, node, view, nodes-long c.self.inside.edges.items c.self.inside.nodes c.self.inside.spans.items)

pub expand-found-requires : goal.expand-found-requires
expand-found-requires g c =
    let view = ap (λ (v : GraphValue). length v.nodes) c.self.view_is in
    let node = c.requires.node in
    let width = c.requires.width in
    let (at, there, is) = point-there c.self.inside.edges.items c.self.inside.nodes c.self.inside.spans.items c.args.node (omega (arith, node, view)) in
    let stands : c.as_slice-2.result.now ≡ at.stands = c.as_slice-2.ensures.value ∙ c.in_ok-read.ensures at there in
    let on : AreStandsOn (course_of c.args.memo.now c.args.places.now) c.as_slice-2.result.now =
    subst (AreStandsOn (course_of c.args.memo.now c.args.places.now)) (sym stands)
    (c.requires.stands (node_with c.self.inside.edges.items at (span_at c.self.inside.spans.items c.args.node))
    (ap (λ (v : GraphValue). slice_get v.nodes c.args.node) (sym c.self.view_is) ∙ is)) in
    let ground : IsGround (course_of c.args.memo.now c.args.places.now) (g.T.Outputs.ranks c.args.table.now) (g.T.Outputs.CanAsk c.args.table.now) c.self.inside.rooms.files.room =
    subst (IsGround (course_of c.args.memo.now c.args.places.now) (g.T.Outputs.ranks c.args.table.now) (g.T.Outputs.CanAsk c.args.table.now)) (ap (λ (v : GraphValue). v.room) (sym c.self.view_is))
    c.requires.ground in
    let room : length c.self.inside.rooms.sums ≡ c.self.inside.rooms.files.room = c.self.invariant.1 in
    search rules

pub returns-in_err-found-clause-grows : goal.returns-in_err-found-clause-grows
returns-in_err-found-clause-grows g c number node is =
    let (more, points, on) = c.expand-found.ensures.points in
    let (others, edges) = c.expand-found.ensures.kept in
    rw (points, edges)
    (nodes-grow c.self.inside.nodes more c.self.inside.edges.items others c.self.inside.spans.items c.self.invariant.0 c.self.inside.spans.items (λ other known. refl) number node
    (ap (λ (v : GraphValue). slice_get v.nodes number) c.self.view_is ∙ is))

module _ (g : Over) (c : After-len-count g) where
  -- no two standpoints are the same
  distinct : (more : List Standpoint) → c.expand-found.new.nodes ≡ c.self.inside.nodes ++ more
      → (one other : ℕ) (at : Standpoint) → slice_get (c.self.inside.nodes ++ more) one ≡ Some at → slice_get (c.self.inside.nodes ++ more) other ≡ Some at → one ≡ other
  distinct more is =
      subst (λ (l : List Standpoint). (one other : ℕ) (at : Standpoint) → slice_get l one ≡ Some at → slice_get l other ≡ Some at → one ≡ other) is c.len-count.ensures.distinct

  was : (courses : Courses) → IsGraph courses (g.T.Outputs.ranks c.args.table.now) c.args.need c.args.self.now.nodes
      → IsGraph courses (g.T.Outputs.ranks c.args.table.now) c.args.need (nodes_of c.self.inside.edges.items c.self.inside.nodes c.self.inside.spans.items)
  was courses graph = subst (λ (v : GraphValue). IsGraph courses (g.T.Outputs.ranks c.args.table.now) c.args.need v.nodes) (sym c.self.view_is) graph

  -- a graph in which no node has new edges
  same : (spans : List Span) → ((number : ℕ) → span_at spans number ≡ span_at c.self.inside.spans.items number)
      → (courses : Courses) (n : Node) → slice_get c.args.self.now.nodes c.args.node ≡ Some n → course_in courses n.at.seen ≡ course_of c.args.memo.now c.args.places.now
      → IsGraph courses (g.T.Outputs.ranks c.args.table.now) c.args.need c.args.self.now.nodes
      → IsGraph courses (g.T.Outputs.ranks c.args.table.now) c.args.need (nodes_of c.expand-found.new.edges.items c.expand-found.new.nodes spans)
  same spans kept courses n there course graph =
      let (more, points, on) = c.expand-found.ensures.points in
      let (others, edges) = c.expand-found.ensures.kept in
      rw (points, edges)
      (graph-same courses (g.T.Outputs.ranks c.args.table.now) c.args.need c.self.inside.nodes more c.self.inside.edges.items others c.self.inside.spans.items c.self.invariant.0 (was courses graph)
      (distinct more points) (on-courses courses n.at.seen (course_of c.args.memo.now c.args.places.now) more course on) spans kept)

  -- all spans lie within the edges still
  kept-spans : AreSpans (length c.expand-found.new.nodes) c.expand-found.new.edges.items c.self.inside.spans.items
  kept-spans =
      let (more, points, on) = c.expand-found.ensures.points in
      let (others, edges) = c.expand-found.ensures.kept in
      rw (points, edges) (spans-kept c.self.inside.nodes more c.self.inside.edges.items others c.self.inside.spans.items c.self.invariant.0)

  room-kept : length c.expand-found.new.rooms.sums ≡ c.expand-found.new.rooms.files.room
  room-kept = c.expand-found.ensures.sums ∙ c.self.invariant.1 ∙ sym c.expand-found.ensures.files

  unknown' : (span_at c.self.inside.spans.items c.args.node).known ≡ false
  unknown' = ap (λ (l : List Span). (span_at l c.args.node).known) (sym c.as_slice.ensures.value) ∙ ap (λ (s : Span). s.known) (sym c.span_at.ensures) ∙ c.if-span_at.false

pub returns-in_err-found-clause-graph : goal.returns-in_err-found-clause-graph
returns-in_err-found-clause-graph g c =
    let at = (goal.at.returns-in_err-found-clause-graph g c).After-len-count in
    same g at c.self.inside.spans.items (λ number. refl)

pub returns-in_err-set_span-clause-graph : goal.returns-in_err-set_span-clause-graph
returns-in_err-set_span-clause-graph g c =
    let at = (goal.at.returns-in_err-set_span-clause-graph g c).After-len-count in
    same g at c.set_span.new.spans.items c.in_err-set_span.ensures.same

pub returns-in_err-set_span-clause-grows : goal.returns-in_err-set_span-clause-grows
returns-in_err-set_span-clause-grows g c number node is =
    let (more, points, on) = c.expand-found.ensures.points in
    let (others, edges) = c.expand-found.ensures.kept in
    rw (points, edges)
    (nodes-grow c.self.inside.nodes more c.self.inside.edges.items others c.self.inside.spans.items c.self.invariant.0 c.set_span.new.spans.items (λ other known. c.in_err-set_span.ensures.same other) number node
    (ap (λ (v : GraphValue). slice_get v.nodes number) c.self.view_is ∙ is))

pub invariant_of-self-in_err-set_span : goal.invariant_of-self-in_err-set_span
invariant_of-self-in_err-set_span g c =
    let at = (goal.at.invariant_of-self-in_err-set_span g c).After-len-count in
    (spans-same (length c.expand-found.new.nodes) c.expand-found.new.edges.items c.self.inside.spans.items c.set_span.new.spans.items c.in_err-set_span.ensures.same (kept-spans g at), room-kept g at)

module _ (g : Over) (c : In_ok-set_span g) where
  -- the span of the node
  span-is : IsSpan (length c.expand-found.new.nodes) c.expand-found.new.edges.items c.args.node (record { first = c.len-first.result; last = c.len.result; known = true })
  span-is =
      let (more, points, on) = c.expand-found.ensures.points in
      let (others, edges) = c.expand-found.ensures.kept in
      let view = ap (λ (v : GraphValue). length v.nodes) c.self.view_is in
      let node = c.requires.node in
      let long = nodes-long c.self.inside.edges.items c.self.inside.nodes c.self.inside.spans.items in
      let longer = ap (λ (l : List Standpoint). length l) points in
      let wider = ap (λ (l : List Edge). length l) edges in
      record {
        inside = omega (arith, node, view, long, longer, length-append c.self.inside.nodes more);
        forward = omega (arith, wider, length-append c.self.inside.edges.items others, c.len-first.ensures, c.len.ensures, c.self.inside.edges.ok.0, c.expand-found.new.edges.ok.0);
        within = omega (arith, c.len.ensures, c.expand-found.new.edges.ok.0);
      }

pub invariant_of-self-2 : goal.invariant_of-self-2
invariant_of-self-2 g c =
    let at = (goal.at.invariant_of-self-2 g c).After-len-count in
    let ok = (goal.at.invariant_of-self-2 g c).In_ok-set_span in (
      spans-set (length c.expand-found.new.nodes) c.expand-found.new.edges.items c.self.inside.spans.items c.set_span.new.spans.items c.args.node
          (record { first = c.len-first.result; last = c.len.result; known = true }) c.in_ok-set_span.ensures.set (span-is g ok) (kept-spans g at),
      room-kept g at,
    )

pub returns-clause-grows : goal.returns-clause-grows
returns-clause-grows g c number node is =
    let at = (goal.at.returns-clause-grows g c).After-len-count in
    let (more, points, on) = c.expand-found.ensures.points in
    let (others, edges) = c.expand-found.ensures.kept in
    let span : Span = record { first = c.len-first.result; last = c.len.result; known = true } in
    rw (points, edges)
    (nodes-grow c.self.inside.nodes more c.self.inside.edges.items others c.self.inside.spans.items c.self.invariant.0 c.set_span.new.spans.items
    (set-keeps c.self.inside.spans.items c.set_span.new.spans.items c.args.node span c.in_ok-set_span.ensures.set (unknown' g at)) number node
    (ap (λ (v : GraphValue). slice_get v.nodes number) c.self.view_is ∙ is))

pub returns-clause-expanded : goal.returns-clause-expanded
returns-clause-expanded g c =
    let at = (goal.at.returns-clause-expanded g c).After-len-count in
    let ok = (goal.at.returns-clause-expanded g c).In_ok-set_span in
    let span : Span = record { first = c.len-first.result; last = c.len.result; known = true } in
    known-expanded c.expand-found.new.edges.items c.expand-found.new.nodes c.set_span.new.spans.items
    (spans-set (length c.expand-found.new.nodes) c.expand-found.new.edges.items c.self.inside.spans.items c.set_span.new.spans.items c.args.node span c.in_ok-set_span.ensures.set (span-is g ok) (kept-spans g at))
    c.args.node (ap (λ (s : Span). s.known) c.in_ok-set_span.ensures.set.here)

pub returns-clause-graph : goal.returns-clause-graph
returns-clause-graph g c courses n there course graph =
    let at = (goal.at.returns-clause-graph g c).After-len-count in
    let (more, points, on) = c.expand-found.ensures.points in
    let (others, edges) = c.expand-found.ensures.kept in
    let ranks = g.T.Outputs.ranks c.args.table.now in
    let span : Span = record { first = c.len-first.result; last = c.len.result; known = true } in
    let here : slice_get c.self.inside.nodes c.args.node ≡ Some n.at =
    (node-from c.self.inside.edges.items c.self.inside.nodes c.self.inside.spans.items c.args.node n (ap (λ (v : GraphValue). slice_get v.nodes c.args.node) c.self.view_is ∙ there)).0 in
    let first : length c.self.inside.edges.items ≡ c.len-first.result = omega (arith, c.len-first.ensures, c.self.inside.edges.ok.0) in
    let last : length c.expand-found.new.edges.items ≡ c.len.result = omega (arith, c.len.ensures, c.expand-found.new.edges.ok.0) in
    let range : slice_range c.expand-found.new.edges.items (length c.self.inside.edges.items) (length c.expand-found.new.edges.items)
    ≡ slice_range (c.self.inside.edges.items ++ others) c.len-first.result c.len.result = λ i. slice_range (edges i) (first i) (last i) in
    let are : AreEdges (course_in courses n.at.seen) (c.self.inside.nodes ++ more) ranks (record { seen = n.at.seen; need = c.args.need }) n.at.stands
    (slice_range (c.self.inside.edges.items ++ others) c.len-first.result c.len.result) =
    edges-for (course_of c.args.memo.now c.args.places.now) (course_in courses n.at.seen) c.expand-found.new.nodes (c.self.inside.nodes ++ more) ranks c.args.need c.seen.result n.at.seen
    c.as_slice-2.result.now n.at.stands (slice_range c.expand-found.new.edges.items (length c.self.inside.edges.items) (length c.expand-found.new.edges.items))
    (slice_range (c.self.inside.edges.items ++ others) c.len-first.result c.len.result) (sym course) points (c.seen.ensures n.at here) (c.as_slice-2.ensures.value ∙ c.in_ok-read.ensures n.at here) range
    c.in_ok-found.ensures.edges in
    rw (points, edges)
    (graph-set courses ranks c.args.need c.self.inside.nodes more c.self.inside.edges.items others c.self.inside.spans.items c.self.invariant.0 (was g at courses graph)
    (distinct g at more points) (on-courses courses n.at.seen (course_of c.args.memo.now c.args.places.now) more course on) c.set_span.new.spans.items c.args.node span n.at
    c.in_ok-set_span.ensures.set here are)
