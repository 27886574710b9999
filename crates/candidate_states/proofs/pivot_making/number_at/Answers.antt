use Rattle.std.proofs.Common.{◌≡◌, ◌<◌, ◌∙◌, Bool, false, IsTrue, true≢false, Some, List, length, vec_len, eqb-true, eq-eqb, sym, subst, arith}
use Rattle.std.specs.List.{slice_get}
use Rattle.automaton_model.specs.declared.state.Edge.{Edge}
use Rattle.automaton_model.specs.Automata.{StateValue}
use Rattle.automaton_model.specs.Registry.{IsKeptState}
use Rattle.candidate_states.specs.declared.numbers.Numbers.{Numbers}
use Rattle.candidate_states.specs.Stages.{asked_in, can_end, AreLinked, AreNumbered}
use Rattle.graph_order.proofs.OrderLemmas.{edge-inside}
use Rattle.candidate_states.proofs.LinkLemmas.{dead-settled, stage-kept, stage-right, numbered-stay, entered-numbered}
use Rattle.candidate_states.proofs.pivot_making.number_at.Goals.{else-not-state-via-then-not-state+else-is_empty, else-not-state-via-else-not-state}
use Rattle.candidate_states.proofs.pivot_making.number_at.Goals as goal

pub link-requires-clause-within : goal.link-requires-clause-within
link-requires-clause-within c step held =
    let nodes = c.args.graph.now.nodes in
    let below : step.next < length nodes = edge-inside nodes c.requires.graph c.args.node step.rank step ((c.steps_of-steps.ensures.exact step).0 held).0 in
    subst (λ (l : List Numbers). step.next < length l) (sym c.as_slice.ensures.value) (omega (arith, below, c.requires.long))

pub returns-then-is_empty-clause-settled : goal.returns-then-is_empty-clause-settled
returns-then-is_empty-clause-settled c = λ is no_number.
    let linked = subst (λ (l : List Numbers). AreLinked l c.args.pivot c.args.stage c.steps_of-steps.result.now c.link.new.edges.items) c.as_slice.ensures.value c.in_ok-link.ensures in
    let never : can_end c.args.stage ≡ false = cc in
    let none : vec_len c.link.new.edges ≡ 0 = eqb-true (vec_len c.link.new.edges) 0 (sym c.is_empty.ensures ∙ c.if-is_empty.true) in
    let empty : length c.link.new.edges.items ≡ 0 = omega (arith, none) in
    dead-settled c.args.graph.now.nodes c.args.pivot c.args.registry.now c.args.asked.now c.args.numbers.now.items c.requires.states c.args.node c.args.stage is c.requires.closed c.requires.targets
    c.steps_of-steps.result.now c.steps_of-steps.ensures.exact c.link.new.edges.items linked never empty

pub number-requires : goal.number-requires
number-requires c =
    let is : IsTrue (asked_in c.args.asked.now c.args.node c.args.stage) = cc in
    let linked = subst (λ (l : List Numbers). AreLinked l c.args.pivot c.args.stage c.steps_of-steps.result.now c.link.new.edges.items) c.as_slice.ensures.value c.in_ok-link.ensures in
    subst (λ (b : Bool). IsKeptState c.args.registry.now (length c.args.registry.now) (record { accepts = b; edges = c.link.new.edges.items })) (sym c.is_ending-state.ensures)
    (stage-kept c.args.graph.now.nodes c.args.pivot c.args.registry.now c.args.asked.now c.args.numbers.now.items c.requires.states c.args.node c.args.stage is c.requires.closed c.requires.targets
    c.steps_of-steps.result.now c.steps_of-steps.ensures.exact c.link.new.edges.items linked)

pub returns-clause-states : goal.returns-clause-states
returns-clause-states c =
    let nodes = c.args.graph.now.nodes in
    let numbers = c.args.numbers.now.items in
    let edges : List Edge = c.link.new.edges.items in
    let is : IsTrue (asked_in c.args.asked.now c.args.node c.args.stage) = cc in
    let linked = subst (λ (l : List Numbers). AreLinked l c.args.pivot c.args.stage c.steps_of-steps.result.now edges) c.as_slice.ensures.value c.in_ok-link.ensures in
    let alive : can_end c.args.stage ≡ false → length edges ≡ 0 → ⊥ = λ never empty. elim c.else-not-state.branch [
      | else-not-state-via-then-not-state+else-is_empty w ↦ (
          let none : vec_len c.link.new.edges ≡ 0 = omega (arith, empty) in
          true≢false (sym (eq-eqb (vec_len c.link.new.edges) 0 none) ∙ sym w.is_empty.ensures ∙ w.if-is_empty.false))
      | else-not-state-via-else-not-state w ↦ true≢false (sym w.if-not-state.false ∙ c.is_ending-state.ensures ∙ never)
    ] in
    let (more, grown, added) = c.number.ensures.grows in
    let still : AreNumbered nodes c.args.pivot c.number.new.self numbers =
    subst (λ (l : List StateValue). AreNumbered nodes c.args.pivot l numbers) (sym grown) (numbered-stay nodes c.args.pivot c.args.registry.now more numbers c.requires.registry c.requires.states) in
    entered-numbered numbers c.enter_number.new.numbers.items c.args.node c.args.stage c.in_ok-number.number c.enter_number.ensures nodes c.args.pivot c.number.new.self still
    (stage-right nodes c.args.pivot c.args.registry.now c.args.asked.now numbers c.requires.states c.args.node c.args.stage is c.requires.closed c.requires.targets
    c.steps_of-steps.result.now c.steps_of-steps.ensures.exact edges linked alive c.number.new.self still c.in_ok-number.number
    (subst (λ (b : Bool). slice_get c.number.new.self c.in_ok-number.number ≡ Some (record { accepts = b; edges = edges })) c.is_ending-state.ensures c.in_ok-number.ensures.number))
