use Rattle.std.proofs.Common.{◌≡◌, ◌∙◌, ◌≤◌, List, length, sym, ap, subst, arith, rules}
use Rattle.std.specs.List.{slice_get, slice_range}
use Rattle.candidate_graph.specs.declared.edge.Edge.{Edge}
use Rattle.candidate_graph.specs.declared.span.Span.{Span}
use Rattle.candidate_graph.specs.Graphs.{GraphValue, IsExpanded}
use Rattle.candidate_graph.specs.Kept.{span_at, IsSpan}
use Rattle.candidate_graph.proofs.GraphLemmas.{expanded-span, expanded-edges}
use Rattle.candidate_graph.proofs.graph.Graph.edges_of.Goals as goal
use Rattle.candidate_graph.proofs.graph.Graph.edges_of.Goals.{After-deref}

module _ (c : After-deref) where
  span_is : c.span_at-span.result ≡ span_at c.self.inside.spans.items c.args.node
  span_is = c.span_at-span.ensures ∙ ap (λ (l : List Span). span_at l c.args.node) c.as_slice.ensures.value

  is-span : IsSpan (length c.self.inside.nodes) c.self.inside.edges.items c.args.node c.span_at-span.result
  is-span =
      subst (IsSpan (length c.self.inside.nodes) c.self.inside.edges.items c.args.node) (sym span_is)
      (expanded-span c.self.inside.edges.items c.self.inside.nodes c.self.inside.spans.items c.self.invariant.0 c.args.node
      (subst (λ (g : GraphValue). IsExpanded g.nodes c.args.node) (sym c.self.view_is) c.requires))

  ahead : c.span_at-span.result.first ≤ c.span_at-span.result.last
  ahead = is-span.forward

  within : c.span_at-span.result.last ≤ length c.deref.result.now
  within = let most = is-span.within in omega (arith, most, ap (λ (l : List Edge). length l) c.deref.ensures.value)

pub slice_bounds-result-count : goal.slice_bounds-result-count
slice_bounds-result-count c = ahead (goal.at.slice_bounds-result-count c).After-deref

pub slice_bounds-result-start : goal.slice_bounds-result-start
slice_bounds-result-start c =
    let at = (goal.at.slice_bounds-result-start c).After-deref in let forward = ahead at in let last = within at in search rules

pub slice_bounds-result-end : goal.slice_bounds-result-end
slice_bounds-result-end c =
    let at = (goal.at.slice_bounds-result-end c).After-deref in let forward = ahead at in let last = within at in search rules

pub offset_bounds-deref-span : goal.offset_bounds-deref-span
offset_bounds-deref-span c =
    let at = (goal.at.offset_bounds-deref-span c).After-deref in let forward = ahead at in let last = within at in search rules

pub returns : goal.returns
returns c n edges is known =
    let at = (goal.at.returns c).After-deref in
    let told : edges ≡ slice_range c.self.inside.edges.items (span_at c.self.inside.spans.items c.args.node).first (span_at c.self.inside.spans.items c.args.node).last =
    expanded-edges c.self.inside.edges.items c.self.inside.nodes c.self.inside.spans.items c.args.node n edges
    (ap (λ (g : GraphValue). slice_get g.nodes c.args.node) c.self.view_is ∙ is) known in
    ap (λ (l : List Edge). slice_range l c.span_at-span.result.first c.span_at-span.result.last) c.deref.ensures.value
    ∙ ap (λ (s : Span). slice_range c.self.inside.edges.items s.first s.last) (span_is at) ∙ sym told
