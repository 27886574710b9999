use Rattle.std.proofs.Common.{◌≡◌, ◌++◌, ℕ, List, take, get_or, sym, ap, ◌∙◌, subst, arith}
use Rattle.std.specs.List.{Contains}
use Rattle.std.proofs.lemmas.List.Elements.{Contains-get_or}
use Rattle.automaton_model.specs.Automata.{Accepts, state_of, state_code, code_of}
use Rattle.automaton_model.specs.Codes.{IsCodeOf}
use Rattle.automaton_model.specs.Walks.{renumbered}
use Rattle.automaton_model.proofs.NumberLemmas.{new_states}
use Rattle.automaton_model.proofs.VisitLemmas.{visited-stands, visited-target, visited-code, code-step, take-whole}
use Rattle.std.proofs.lemmas.Grind.{take_at_read}
use Rattle.automaton_model.proofs.coding.code_from.Goals as goal

pub state-requires : goal.state-requires
state-requires c =
    let number : ℕ = get_or c.as_slice-number-items.result.now c.states.number-index 0 in
    let held : Contains c.in_ok-visited.visited.keys number =
    subst (λ (l : List ℕ). Contains l number) c.as_slice-number-items.ensures.keys (Contains-get_or c.as_slice-number-items.result.now c.states.number-index 0 c.states-test.true) in
    visited-stands c.args.registry.now c.visit_all.ensures.registry c.args.root c.requires c.in_ok-visited.visited.keys c.in_ok-visited.ensures.visited number held

pub push_state-requires : goal.push_state-requires
push_state-requires c = λ edge on.
    let number : ℕ = get_or c.as_slice-number-items.result.now c.states.number-index 0 in
    let held : Contains c.in_ok-visited.visited.keys number =
    subst (λ (l : List ℕ). Contains l number) c.as_slice-number-items.ensures.keys (Contains-get_or c.as_slice-number-items.result.now c.states.number-index 0 c.states-test.true) in
    visited-target c.args.registry.now c.visit_all.ensures.registry c.args.root c.requires c.in_ok-visited.visited.keys c.in_ok-visited.ensures.visited number
    (state_of c.state.result.now) edge held c.state.ensures on

pub states-preserved : goal.states-preserved
states-preserved c =
    let items : List ℕ = c.as_slice-number-items.result.now in
    let number : ℕ = get_or items c.states.number-index 0 in
    let more : List ℕ = state_code (renumbered items (state_of c.state.result.now)) in
    c.in_ok-push_state.ensures
    ∙ ap (λ (visited : List ℕ). c.states.code.items ++ state_code (renumbered visited (state_of c.state.result.now))) (sym c.as_slice-number-items.ensures.keys)
    ∙ ap (λ (code : List ℕ). code ++ more) c.states.invariant
    ∙ sym (code-step c.args.registry.now items (take c.states.number-index items) number (state_of c.state.result.now) c.state.ensures)
    ∙ ap (λ (part : List ℕ). code_of (new_states c.args.registry.now items part)) (sym (take_at_read items c.states.number-index 0 c.states-test.true).1)

pub returns : goal.returns
returns c =
    let items : List ℕ = c.as_slice-number-items.result.now in
    let whole : take c.states.number-index items ≡ items = take-whole items c.states.number-index (omega (arith, c.states-test.false, c.states.auto.number-index-end)) in
    subst (IsCodeOf (Accepts c.args.registry.now c.args.root)) (sym (c.new.ensures ∙ c.states.invariant
    ∙ ap (λ (part : List ℕ). code_of (new_states c.args.registry.now items part)) whole
    ∙ ap (λ (l : List ℕ). code_of (new_states c.args.registry.now l l)) c.as_slice-number-items.ensures.keys))
    (visited-code c.args.registry.now c.visit_all.ensures.registry c.args.root c.requires c.in_ok-visited.visited.keys c.in_ok-visited.ensures.visited)
