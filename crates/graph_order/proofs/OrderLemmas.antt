-- Nodes by their levels, where each comes after those to which its edges lead.
use Rattle.std.proofs.Common.{◌≡◌, ℕ, ◌+◌, ◌≤◌, ◌<◌, inl, inr, Option, Some, None, List, [], ◌∷◌, ◌++◌, length, get_or, refl, sym, ap, subst, arith}
use Rattle.std.specs.Prelude.{IsPermutation}
use Rattle.std.specs.List.{Contains, slice_get}
use Rattle.std.specs.List.Sorted.{IsNonDecreasingBy}
use Rattle.std.proofs.lemmas.Bool.{cases_lt}
use Rattle.std.proofs.lemmas.List.Sorted.{IsPermutation-sym, Contains-permutation}
use Rattle.std.proofs.lemmas.Option.{slice_get_within, get_or_from_slice_get}
use Rattle.std.proofs.lemmas.List.Elements.{Contains-append_left, Contains-append_right, Contains-append_cases}
use Rattle.mine_model.proofs.ListLemmas.{Contains-cases, Contains-first, Contains-none}
use Rattle.mine_model.proofs.ElementLemmas.{get-held, slice_get-mapped_by, get-place, get-from}
use Rattle.place_walk.specs.declared.stand.Stand.{Stand}
use Rattle.candidate_graph.specs.declared.edge.Edge.{Edge as Step}
use Rattle.candidate_graph.specs.Graphs.{Node, points_of}
use Rattle.candidate_graph.specs.Paths.{HasEdge}
use Rattle.candidate_graph.proofs.PathLemmas.{places-rise, edge-leaves, edge-leads}
use Rattle.graph_order.specs.declared.order.Turn.{Turn}
use Rattle.graph_order.specs.Orders.{IsSomeGraph, HasTurnBefore, AreInOrder}
use Rattle.graph_order.specs.Levels.{IsLevelAt, IsLevel, AreTurns}

-- levels fall where places rise, or no place is left
level-falls : (first : Stand) (later : Option Stand) (level lower : ℕ) → IsLevelAt (Some first) level → IsLevelAt later lower
    → ((stand : Stand) → later ≡ Some stand → first.place < stand.place) → lower < level
level-falls first None level lower here there rises = omega (arith, here.0, there)
level-falls first (Some stand) level lower here there rises = let less : first.place < stand.place = rises stand refl in omega (arith, here.1, there.1, less)

first-held : (stands : List Stand) (stand : Stand) → slice_get stands 0 ≡ Some stand → Contains stands stand
first-held stands stand is = get-held stands 0 stand is

module _ (nodes : List Node) (some : IsSomeGraph nodes) where
  -- an edge leads to a node of a lower level
  edge-falls : (number rank : ℕ) (edge : Step) (node next : Node) (level lower : ℕ) → HasEdge nodes number rank edge → slice_get nodes number ≡ Some node
      → slice_get nodes edge.next ≡ Some next → IsLevel node.at level → IsLevel next.at lower → lower < level
  edge-falls number rank edge node next level lower has node_is next_is here there =
      let (courses, ranks, need, graph) = some in
      let at_is : slice_get (points_of nodes) number ≡ Some node.at = slice_get-mapped_by (λ (n : Node). n.at) nodes number node node_is in
      let to_is : slice_get (points_of nodes) edge.next ≡ Some next.at = slice_get-mapped_by (λ (n : Node). n.at) nodes edge.next next next_is in
      let (first, first_is) = edge-leaves courses ranks need nodes graph number rank edge has node.at at_is in
      level-falls first (slice_get next.at.stands 0) level lower (subst (λ (o : Option Stand). IsLevelAt o level) first_is here) there
      (λ stand is. places-rise courses ranks need nodes graph number rank edge has node.at next.at at_is to_is first stand first_is (first-held next.at.stands stand is))

  -- an edge leads to a node
  pub edge-inside : (number rank : ℕ) (edge : Step) → HasEdge nodes number rank edge → edge.next < length nodes
  edge-inside number rank edge has =
      let (courses, ranks, need, graph) = some in
      let (point, point_is) = edge-leads courses ranks need nodes graph number rank edge has in
      let (next, next_is, same) = get-from (λ (n : Node). n.at) nodes edge.next point point_is in
      slice_get_within nodes edge.next next next_is

  module _ (turns order : List Turn) (are : AreTurns nodes (length nodes) turns) (permutation : IsPermutation turns order)
      (rising : IsNonDecreasingBy (λ (turn : Turn). turn.level) order) where
    turn-back : (turn : Turn) → Contains order turn → Contains turns turn
    turn-back turn held = Contains-permutation order turns turn (IsPermutation-sym turns order permutation) held

    turn-place : (turn : Turn) → Contains turns turn → (k : ℕ) × (slice_get order k ≡ Some turn)
    turn-place turn held = get-place order turn (Contains-permutation turns order turn permutation held)

    not-before : (one other : ℕ) (low high : Turn) → slice_get order one ≡ Some low → slice_get order other ≡ Some high → one ≤ other → low.level ≤ high.level
    not-before one other low high low_is high_is most =
        let below : (get_or order one low).level ≤ (get_or order other low).level = rising one other low most (slice_get_within order other high high_is) in
        let first : (get_or order one low).level ≡ low.level = ap (λ (t : Turn). t.level) (get_or_from_slice_get order one low low low_is) in
        let second : (get_or order other low).level ≡ high.level = ap (λ (t : Turn). t.level) (get_or_from_slice_get order other high low high_is) in
        omega (arith, below, first, second)

    inside' : (turn : Turn) → Contains order turn → turn.node < length nodes
    inside' turn held =
        let (node, is, level) = are.levels turn (turn-back turn held) in
        slice_get_within nodes turn.node node is

    all' : (node : ℕ) → node < length nodes → HasTurnBefore order (length order) node
    all' node below =
        let (turn, held, is) = are.all node below in
        let (k, at) = turn-place turn held in
        (k, turn, slice_get_within order k turn at, at, is)

    after' : (place : ℕ) (turn : Turn) (rank : ℕ) (edge : Step) → slice_get order place ≡ Some turn → HasEdge nodes turn.node rank edge → HasTurnBefore order place edge.next
    after' place turn rank edge at has =
        let (node, node_is, level) = are.levels turn (turn-back turn (get-held order place turn at)) in
        let (other, held, other_is) = are.all edge.next (edge-inside turn.node rank edge has) in
        let (next, next_is, lower) = are.levels other held in
        let next_at : slice_get nodes edge.next ≡ Some next = subst (λ (n : ℕ). slice_get nodes n ≡ Some next) other_is next_is in
        let less : other.level < turn.level = edge-falls turn.node rank edge node next turn.level other.level has node_is next_at level lower in
        let (k, k_at) = turn-place other held in
        elim (cases_lt k place) [
          | inl earlier ↦ (k, other, earlier, k_at, other_is)
          | inr most ↦ (let no : turn.level ≤ other.level = not-before place k turn other at k_at most in absurd (omega (arith, less, no)))
        ]

    pub in-order : AreInOrder nodes order
    in-order = record { inside = inside'; all = all'; after = after' }

-- ---- turn by turn

pub turn-more : (nodes : List Node) (count : ℕ) (order : List Turn) (turn : Turn) (node : Node) → turn.node ≡ count → slice_get nodes count ≡ Some node → IsLevel node.at turn.level
    → AreTurns nodes count order → AreTurns nodes (count + 1) (order ++ turn ∷ [])
turn-more nodes count order turn node is node_is level are = record {
  levels = λ other held. elim (Contains-append_cases order (turn ∷ []) other held) [
    | inl old ↦ are.levels other old
    | inr last ↦ elim (Contains-cases turn [] other last) [
      | inl same ↦ subst (λ (t : Turn). (node : Node) × (slice_get nodes t.node ≡ Some node) × IsLevel node.at t.level) (sym same)
          (node, subst (λ (n : ℕ). slice_get nodes n ≡ Some node) (sym is) node_is, level)
      | inr none ↦ absurd (Contains-none other none)
    ]
  ];
  all = λ number below. elim (cases_lt number count) [
    | inl less ↦ (let (other, held, other_is) = are.all number less in (other, Contains-append_left order (turn ∷ []) other held, other_is))
    | inr most ↦ (turn, Contains-append_right order (turn ∷ []) turn (Contains-first turn []), omega (arith, below, most, is))
  ];
}
