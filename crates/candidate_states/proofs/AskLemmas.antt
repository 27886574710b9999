-- What is asked for, node by node.
use Rattle.std.proofs.Common.{◌≡◌, ◌↔◌, ℕ, ◌+◌, ◌≤◌, ◌<◌, ◌⊎◌, inl, inr, true, IsTrue, Some, List, length, get_or, refl, sym, ap, ◌∙◌, subst, arith}
use Rattle.std.specs.List.{Contains, slice_get}
use Rattle.std.proofs.lemmas.Bool.{cases_lt, cases_eq}
use Rattle.std.proofs.lemmas.Option.{same_Some, slice_get_within, get_or_from_slice_get}
use Rattle.candidate_graph.specs.declared.edge.Edge.{Edge as Step}
use Rattle.candidate_graph.specs.Graphs.{Node}
use Rattle.candidate_graph.specs.Paths.{HasEdge}
use Rattle.candidate_states.specs.declared.asked.Asked.{Asked}
use Rattle.graph_order.specs.declared.order.Turn.{Turn}
use Rattle.candidate_states.specs.declared.stages.Stage.{Stage}
use Rattle.candidate_states.specs.declared.stages.Stage.TheVariants.{Before, Going, Ending}
use Rattle.graph_order.specs.Orders.{HasTurnBefore, AreInOrder}
use Rattle.candidate_states.specs.Stages.{asked_in, stage_behind, IsAsked, KeepsAsked, IsTarget, IsClosedAt, IsClosed}
use Rattle.graph_order.proofs.StepLemmas.{no-step}
use Rattle.mine_model.proofs.ElementLemmas.{get-place}

-- ---- one more

pub asked-keeps : (before now : List Asked) (node : ℕ) (stage : Stage) → IsAsked before now node stage → KeepsAsked before now
asked-keeps before now node stage asked other flag was = elim (asked.others other flag) [
  | inl (here, same) ↦ subst (λ (n : ℕ). IsTrue (asked_in now n flag)) (sym here) (subst (λ (f : Stage). IsTrue (asked_in now node f)) (sym same) asked.here)
  | inr stays ↦ subst IsTrue (sym stays) was
]

pub asked-others : (before now : List Asked) (node : ℕ) (stage : Stage) → IsAsked before now node stage → (other : ℕ) (flag : Stage)
    → IsTrue (asked_in now other flag) → IsTrue (asked_in before other flag) ⊎ (other ≡ node)
asked-others before now node stage asked other flag is = elim (asked.others other flag) [
  | inl (here, same) ↦ inr here
  | inr stays ↦ inl (subst IsTrue stays is)
]

pub keeps-through : (one two three : List Asked) → KeepsAsked one two → KeepsAsked two three → KeepsAsked one three
keeps-through one two three first second node stage is = second node stage (first node stage is)

-- ---- the edges of one node

module _ (nodes : List Node) (node pivot : ℕ) (stage : Stage) (steps : List Step)
    (exact : (step : Step) → Contains steps step ↔ (HasEdge nodes node step.rank step × (step.rank ≤ pivot))) where
  pub step-target : (step : Step) → Contains steps step → IsTarget nodes node step.next
  step-target step held = (step.rank, step, ((exact step).0 held).0, refl)

  abbrev pub AreDone : List Asked → ℕ → Type 0
  AreDone asked i = (k : ℕ) (step : Step) → k < i → slice_get steps k ≡ Some step → IsTrue (asked_in asked step.next (stage_behind pivot stage step))

  pub done-more : (i : ℕ) (before now : List Asked) → KeepsAsked before now → AreDone before i
      → asked_in now (get_or steps i no-step).next (stage_behind pivot stage (get_or steps i no-step)) ≡ true → AreDone now (i + 1)
  done-more i before now keeps each new k step below at = elim (cases_lt k i) [
    | inl less ↦ keeps step.next (stage_behind pivot stage step) (each k step less at)
    | inr most ↦ (
        let same : k ≡ i = omega (arith, below, most) in
        let one : get_or steps i no-step ≡ step = ap (λ (n : ℕ). get_or steps n no-step) (sym same) ∙ get_or_from_slice_get steps k step no-step at in
        subst (λ (s : Step). asked_in now s.next (stage_behind pivot stage s) ≡ true) one new)
  ]

  pub done-closed : (i : ℕ) (asked : List Asked) → length steps ≤ i → AreDone asked i → IsClosedAt nodes pivot asked node stage
  done-closed i asked long done rank step has most =
      let (n, all, at, known, held, is) = has in
      let there : Contains steps step = (exact step).1 ((n, all, at, known, held, refl), subst (λ (r : ℕ). r ≤ pivot) (sym is) most) in
      let (k, k_at) = get-place steps step there in
      done k step (omega (arith, long, slice_get_within steps k step k_at)) k_at

-- ---- one node after the other

module _ (nodes : List Node) (pivot : ℕ) where
  pub closed-keeps : (before now : List Asked) (node : ℕ) (stage : Stage) → KeepsAsked before now → IsClosedAt nodes pivot before node stage → IsClosedAt nodes pivot now node stage
  closed-keeps before now node stage keeps closed rank step has most = keeps step.next (stage_behind pivot stage step) (closed rank step has most)

  abbrev pub AreOthers : ℕ → List Asked → List Asked → Type 0
  AreOthers node before now = (other : ℕ) (stage : Stage) → IsTrue (asked_in now other stage) → IsTrue (asked_in before other stage) ⊎ IsTarget nodes node other

  pub others-through : (node : ℕ) (one two three : List Asked) → AreOthers node one two → AreOthers node two three → AreOthers node one three
  others-through node one two three first second other stage is = elim (second other stage is) [
    | inl was ↦ first other stage was
    | inr target ↦ inr target
  ]

  -- at each stage of the node in turn
  pub stages-closed : (node : ℕ) (one two three four : List Asked) → KeepsAsked one two → KeepsAsked two three → KeepsAsked three four
      → AreOthers node one two → AreOthers node two three → AreOthers node three four
      → (IsTrue (asked_in one node Before) → IsClosedAt nodes pivot two node Before)
      → (IsTrue (asked_in two node Going) → IsClosedAt nodes pivot three node Going)
      → (IsTrue (asked_in three node Ending) → IsClosedAt nodes pivot four node Ending)
      → (IsTarget nodes node node → ⊥) → IsClosed nodes pivot four node
  stages-closed node one two three four first second third others also last before going ending apart = by
    where
      still : (lists other : List Asked) → AreOthers node lists other → (stage : Stage) → IsTrue (asked_in other node stage) → IsTrue (asked_in lists node stage)
      still lists other are stage is = elim (are node stage is) [ inl was ↦ was | inr target ↦ absurd (apart target) ]

      by : (stage : Stage) → IsTrue (asked_in four node stage) → IsClosedAt nodes pivot four node stage
      by Before is =
          closed-keeps two four node Before (keeps-through two three four second third)
          (before (still one two others Before (still two three also Before (still three four last Before is))))
      by Going is = closed-keeps three four node Going third (going (still two three also Going (still three four last Going is)))
      by Ending is = ending (still three four last Ending is)

  module _ (order : List Turn) (are : AreInOrder nodes order) where
    abbrev pub AreClosedFrom : List Asked → ℕ → Type 0
    AreClosedFrom asked place = (node : ℕ) → node < length nodes → (HasTurnBefore order place node → ⊥) → IsClosed nodes pivot asked node

    pub closed-first : (asked : List Asked) (place : ℕ) → place ≡ length order → AreClosedFrom asked place
    closed-first asked place whole node below none = absurd (none (subst (λ (p : ℕ). HasTurnBefore order p node) (sym whole) (are.all node below)))

    pub closed-all : (asked : List Asked) (place : ℕ) → place ≡ 0 → AreClosedFrom asked place → (node : ℕ) → node < length nodes → IsClosed nodes pivot asked node
    closed-all asked place first closed node below = closed node below (λ (earlier, turn, less, at, is). omega (arith, less, first))

    pub closed-more : (before now : List Asked) (place : ℕ) (turn : Turn) → slice_get order place ≡ Some turn → KeepsAsked before now → AreOthers turn.node before now
        → ((IsTarget nodes turn.node turn.node → ⊥) → IsClosed nodes pivot now turn.node) → AreClosedFrom before (place + 1) → AreClosedFrom now place
    closed-more before now place turn at keeps others here closed node below none = elim (cases_eq node turn.node) [
      | inl same ↦
          subst (λ (n : ℕ). IsClosed nodes pivot now n) (sym same) (here (λ target. none (subst (HasTurnBefore order place) (sym same) (turn-before turn.node target))))
      | inr differ ↦
          let was : IsClosed nodes pivot before node = closed node below (λ (earlier, other, less, other_at, is). elim (cases_lt earlier place) [
            | inl sooner ↦ none (earlier, other, sooner, other_at, is)
            | inr most ↦ (
                let one : earlier ≡ place = omega (arith, less, most) in
                let turn_same : turn ≡ other = same_Some turn other (sym at ∙ ap (slice_get order) (sym one) ∙ other_at) in
                differ (sym is ∙ ap (λ (t : Turn). t.node) (sym turn_same)))
          ]) in
          λ stage is. elim (others node stage is) [
            | inl asked ↦ closed-keeps before now node stage keeps (was stage asked)
            | inr target ↦ absurd (none (turn-before node target))
          ]
    ]
      where
        turn-before : (other : ℕ) → IsTarget nodes turn.node other → HasTurnBefore order place other
        turn-before other (rank, step, has, is) = subst (HasTurnBefore order place) is (are.after place turn rank step at has)
