-- Nodes, by their standpoints and where their edges lie.
use Rattle.std.proofs.Common.{◌≡◌, ℕ, zero, suc, Bool, true, false, if◌then◌else◌, Some, None, List, [], ◌∷◌, ◌++◌, length, refl, sym, ap, ◌∙◌}
use Rattle.std.specs.List.{slice_get, slice_range}
use Rattle.std.proofs.lemmas.Option.{same_Some}
use Rattle.std.proofs.lemmas.List.{length-map}
use Rattle.mine_model.proofs.ListLemmas.{slice_range-append}
use Rattle.candidate_graph.specs.declared.edge.Edge.{Edge}
use Rattle.candidate_graph.specs.declared.span.Span.{Span}
use Rattle.candidate_graph.specs.Graphs.{Standpoint, Node, points_of}
use Rattle.candidate_graph.specs.Kept.{span_at, edges_in, nodes_of, IsSpan}

abbrev pub node_with : List Edge → Standpoint → Span → Node
node_with edges at span = record { at = at; edges = edges_in edges span }

pub points-are : (edges : List Edge) (points : List Standpoint) (spans : List Span) → points_of (nodes_of edges points spans) ≡ points
points-are edges [] spans = refl
points-are edges (at ∷ points) [] = ap (λ (l : List Standpoint). at ∷ l) (points-are edges points [])
points-are edges (at ∷ points) (span ∷ spans) = ap (λ (l : List Standpoint). at ∷ l) (points-are edges points spans)

pub nodes-long : (edges : List Edge) (points : List Standpoint) (spans : List Span) → length (nodes_of edges points spans) ≡ length points
nodes-long edges points spans =
    sym (length-map (nodes_of edges points spans) (λ (node : Node). node.at)) ∙ ap (λ (l : List Standpoint). length l) (points-are edges points spans)

pub node-at : (edges : List Edge) (points : List Standpoint) (spans : List Span) (k : ℕ) (at : Standpoint) → slice_get points k ≡ Some at
    → slice_get (nodes_of edges points spans) k ≡ Some (node_with edges at (span_at spans k))
node-at edges [] spans k at is = absurd (cc)
node-at edges (first ∷ points) [] zero at is = ap (λ (a : Standpoint). let n : Node = record { at = a; edges = None } in Some n) (same_Some first at is)
node-at edges (first ∷ points) [] (suc k) at is = node-at edges points [] k at is
node-at edges (first ∷ points) (span ∷ spans) zero at is = ap (λ (a : Standpoint). Some (node_with edges a span)) (same_Some first at is)
node-at edges (first ∷ points) (span ∷ spans) (suc k) at is = node-at edges points spans k at is

pub node-from : (edges : List Edge) (points : List Standpoint) (spans : List Span) (k : ℕ) (node : Node) → slice_get (nodes_of edges points spans) k ≡ Some node
    → (slice_get points k ≡ Some node.at) × (node.edges ≡ edges_in edges (span_at spans k))
node-from edges [] spans k node is = absurd (cc)
node-from edges (first ∷ points) [] zero node is =
    let same : node ≡ record { at = first; edges = None } = sym (same_Some (record { at = first; edges = None }) node is) in
    (ap (λ (n : Node). Some n.at) (sym same), ap (λ (n : Node). n.edges) same)
node-from edges (first ∷ points) [] (suc k) node is = node-from edges points [] k node is
node-from edges (first ∷ points) (span ∷ spans) zero node is =
    let same : node ≡ node_with edges first span = sym (same_Some (node_with edges first span) node is) in
    (ap (λ (n : Node). Some n.at) (sym same), ap (λ (n : Node). n.edges) same)
node-from edges (first ∷ points) (span ∷ spans) (suc k) node is = node-from edges points spans k node is

-- edges are known where the span says so
pub known-edges : (edges list : List Edge) (span : Span) → edges_in edges span ≡ Some list → (span.known ≡ true) × (list ≡ slice_range edges span.first span.last)
known-edges edges list span is = by span.known refl is
  where
    by : (b : Bool) → span.known ≡ b → edges_in edges span ≡ Some list → (span.known ≡ true) × (list ≡ slice_range edges span.first span.last)
    by true known same = (known, sym (same_Some (slice_range edges span.first span.last) list (sym (known-in edges span known) ∙ same)))
      where
        known-in : (edges : List Edge) (span : Span) → span.known ≡ true → edges_in edges span ≡ Some (slice_range edges span.first span.last)
        known-in edges span known = rw known refl
    by false none same = absurd (let no' : None ≡ Some list = sym (unknown-in edges span none) ∙ same in cc)
      where
        unknown-in : (edges : List Edge) (span : Span) → span.known ≡ false → edges_in edges span ≡ None
        unknown-in edges span none = rw none refl

pub edges-known : (edges : List Edge) (span : Span) → span.known ≡ true → edges_in edges span ≡ Some (slice_range edges span.first span.last)
edges-known edges span known = rw known refl

-- they stay where more edges come behind
pub edges-stay : (edges more : List Edge) (count number : ℕ) (span : Span) → IsSpan count edges number span → edges_in (edges ++ more) span ≡ edges_in edges span
edges-stay edges more count number span is =
    ap (λ (l : List Edge). if span.known then Some l else None) (slice_range-append edges more span.first span.last is.forward is.within)
