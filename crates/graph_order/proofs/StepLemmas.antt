-- The edges of a node, and turns, as they are read one by one.
use Rattle.std.proofs.Common.{◌≡◌, ℕ, ◌+◌, ◌≤◌, ◌<◌, inl, inr, false, Some, List, length, get_or, refl, sym, ap, ◌∙◌, subst, arith}
use Rattle.std.specs.List.{AllPairs, Contains, slice_get}
use Rattle.std.proofs.lemmas.Bool.{cases_lt}
use Rattle.std.proofs.lemmas.Option.{same_Some, slice_get-get_or, get_or_from_slice_get}
use Rattle.std.proofs.lemmas.List.{get_or_default}
use Rattle.mine_model.proofs.ElementLemmas.{get-some}
use Rattle.candidate_graph.specs.declared.edge.Edge.{Edge as Step}
use Rattle.candidate_graph.specs.Graphs.{Node, IsWhole, IsExpanded}
use Rattle.candidate_graph.specs.Paths.{HasEdge}
use Rattle.graph_order.specs.declared.order.Turn.{Turn}
use Rattle.graph_order.specs.Orders.{IsSomeGraph, AreInOrder}
use Rattle.graph_order.proofs.OrderLemmas.{edge-inside}

-- ---- steps of a node

abbrev pub no-step : Step
no-step = record { rank = 0; ends = false; next = 0 }

pub step-there : (steps : List Step) (k : ℕ) → k < length steps → Contains steps (get_or steps k no-step)
step-there steps k below = (k, below, get_or_default steps k (get_or steps k no-step) no-step below)

-- the list is that of the node's edges
abbrev pub AreStepsOf : List Node → ℕ → List Step → Type 0
AreStepsOf nodes number steps = (node : Node) × (slice_get nodes number ≡ Some node) × (node.edges ≡ Some steps)

pub whole-expanded : (nodes : List Node) (number : ℕ) → IsWhole nodes → number < length nodes → IsExpanded nodes number
whole-expanded nodes number whole below =
    let (node, at) = get-some nodes number below in
    let (steps, known) = whole number node at in
    (node, steps, at, known)

pub steps-of : (nodes : List Node) (number : ℕ) (list : List Step) → IsWhole nodes → number < length nodes
    → ((node : Node) (steps : List Step) → slice_get nodes number ≡ Some node → node.edges ≡ Some steps → list ≡ steps) → AreStepsOf nodes number list
steps-of nodes number list whole below told =
    let (node, at) = get-some nodes number below in
    let (steps, known) = whole number node at in
    (node, at, known ∙ ap (λ (l : List Step). Some l) (sym (told node steps at known)))

module _ (nodes : List Node) (number : ℕ) (list : List Step) (are : AreStepsOf nodes number list) where
  pub step-edge : (step : Step) → Contains list step → HasEdge nodes number step.rank step
  step-edge step held = (are.0, list, are.1, are.2, held, refl)

  pub steps-inside : IsSomeGraph nodes → (step : Step) → Contains list step → step.next < length nodes
  steps-inside some step held = edge-inside nodes some number step.rank step (step-edge step held)

  pub steps-rising : IsSomeGraph nodes → AllPairs (λ (low : Step) (high : Step). low.rank < high.rank) list
  steps-rising (courses, ranks, need, graph) = (graph.edges number are.0 list are.1 are.2).rising

  pub step-held : (rank : ℕ) (step : Step) → HasEdge nodes number rank step → Contains list step
  step-held rank step (node, steps, at, known, held, is) =
      let same_node : node ≡ are.0 = same_Some node are.0 (sym at ∙ are.1) in
      let same_steps : steps ≡ list = same_Some steps list (sym known ∙ ap (λ (n : Node). n.edges) same_node ∙ are.2) in
      subst (λ (l : List Step). Contains l step) same_steps held

-- ---- turns

abbrev pub no-turn : Turn
no-turn = record { level = 0; node = 0 }

pub turn-there : (order : List Turn) (k : ℕ) → k < length order → Contains order (get_or order k no-turn)
turn-there order k below = (k, below, get_or_default order k (get_or order k no-turn) no-turn below)

-- it holds of each node whose turn was before this place
abbrev pub HoldsTo : List Turn → (ℕ → Type 0) → ℕ → Type 0
HoldsTo order Has i = (k : ℕ) (turn : Turn) → k < i → slice_get order k ≡ Some turn → Has turn.node

-- what holds of those before holds still, and of one more
pub turns-more : (order : List Turn) (Had Has : ℕ → Type 0) (i : ℕ) → ((node : ℕ) → Had node → Has node) → HoldsTo order Had i → Has (get_or order i no-turn).node
    → HoldsTo order Has (i + 1)
turns-more order Had Has i keeps each new k turn below at = elim (cases_lt k i) [
  | inl less ↦ keeps turn.node (each k turn less at)
  | inr most ↦ (
      let same : k ≡ i = omega (arith, below, most) in
      let one : get_or order i no-turn ≡ turn = ap (λ (n : ℕ). get_or order n no-turn) (sym same) ∙ get_or_from_slice_get order k turn no-turn at in
      subst (λ (t : Turn). Has t.node) one new)
]

module _ (nodes : List Node) (order : List Turn) (are : AreInOrder nodes order) (Has : ℕ → Type 0) (i : ℕ) (each : HoldsTo order Has i) where
  -- it holds of the nodes behind the one whose turn it is
  pub turn-targets : i < length order → (rank : ℕ) (edge : Step) → HasEdge nodes (get_or order i no-turn).node rank edge → Has edge.next
  turn-targets below rank edge has =
      let (earlier, turn, less, at, is) = are.after i (get_or order i no-turn) rank edge (slice_get-get_or order i no-turn below) has in
      subst Has is (each earlier turn less at)

  -- in the end it holds of all
  pub turns-all : length order ≤ i → (node : ℕ) → node < length nodes → Has node
  turns-all long node below =
      let (k, turn, less, at, is) = are.all node below in
      subst Has is (each k turn (omega (arith, less, long)) at)
