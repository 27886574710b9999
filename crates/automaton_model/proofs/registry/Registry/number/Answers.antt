use Rattle.std.proofs.Common.{inl, inr, ◌≡◌, ◌++◌, ◌∷◌, [], List, Some, false, map, length, is_some, slice_get, sym, ap, ◌∙◌, subst, arith, length-append}
use Rattle.std.proofs.lemmas.List.{length-map}
use Rattle.std.specs.List.{Contains, list_any}
use Rattle.mine_model.proofs.ListLemmas.{Contains-cases, Contains-none}
use Rattle.mine_model.proofs.ElementLemmas.{stands_last}
use Rattle.automaton_model.specs.declared.state.State.{State}
use Rattle.automaton_model.specs.Automata.{StateValue, state_of}
use Rattle.automaton_model.specs.Registry.{IsKeptState, IsRegistry}
use Rattle.automaton_model.proofs.HeldLemmas.{held_eq, found-at, not-found, held-pushed, registry-grown}
use Rattle.automaton_model.proofs.registry.Registry.number.Goals as goal

pub returns-in-Some-clause-number : goal.returns-in-Some-clause-number
returns-in-Some-clause-number c =
    subst (λ (states : List StateValue). slice_get states c.in-Some.index ≡ Some (state_of c.args.state.now)) c.self.view_is
    (found-at c.args.state.now c.self.inside.states.keys c.in-Some.index (sym c.get_index_of.ensures.index ∙ c.in-Some.is))

pub returns-then-count-clause-held : goal.returns-then-count-clause-held
returns-then-count-clause-held c = λ held.
    let none : list_any (held_eq c.args.state.now) c.self.inside.states.keys ≡ false = sym c.get_index_of.ensures.found ∙ ap is_some c.in_default.is in
    absurd (not-found c.args.state.now c.self.inside.states.keys none (subst (λ (states : List StateValue). Contains states (state_of c.args.state.now)) (sym c.self.view_is) held))

pub returns-in_err-edges-clause-held : goal.returns-in_err-edges-clause-held
returns-in_err-edges-clause-held c = λ held.
    let none : list_any (held_eq c.args.state.now) c.self.inside.states.keys ≡ false = sym c.get_index_of.ensures.found ∙ ap is_some c.in_default.is in
    absurd (not-found c.args.state.now c.self.inside.states.keys none (subst (λ (states : List StateValue). Contains states (state_of c.args.state.now)) (sym c.self.view_is) held))

pub returns-in_err-insert-clause-held : goal.returns-in_err-insert-clause-held
returns-in_err-insert-clause-held c = λ held.
    let none : list_any (held_eq c.args.state.now) c.self.inside.states.keys ≡ false = sym c.get_index_of.ensures.found ∙ ap is_some c.in_default.is in
    absurd (not-found c.args.state.now c.self.inside.states.keys none (subst (λ (states : List StateValue). Contains states (state_of c.args.state.now)) (sym c.self.view_is) held))

abbrev grown : (c : goal.In_ok-insert) → map state_of c.insert.new.self.keys ≡ map state_of c.self.inside.states.keys ++ state_of c.args.state.now ∷ []
grown c =
    let none : list_any (held_eq c.args.state.now) c.self.inside.states.keys ≡ false = sym c.get_index_of.ensures.found ∙ ap is_some c.in_default.is in
    let copy : State = record { accepts = c.args.state.now.accepts; edges = c.in_ok-edges.edges } in
    held-pushed c.args.state.now copy c.self.inside.states.keys c.insert.new.self.keys
    (λ i. record { accepts = c.args.state.now.accepts; edges = (c.in_ok-edges.ensures.items ∙ c.as_slice.ensures.value) i }) none c.in_ok-insert.ensures.keys

registry_grown : (c : goal.In_ok-insert) → IsRegistry (map state_of c.insert.new.self.keys)
registry_grown c =
    let none : list_any (held_eq c.args.state.now) c.self.inside.states.keys ≡ false = sym c.get_index_of.ensures.found ∙ ap is_some c.in_default.is in
    let copy : State = record { accepts = c.args.state.now.accepts; edges = c.in_ok-edges.edges } in
    registry-grown c.args.state.now copy c.self.inside.states.keys c.insert.new.self.keys c.self.invariant.0
    (subst (λ (states : List StateValue). IsKeptState states (length states) (state_of c.args.state.now)) (sym c.self.view_is) c.requires)
    (λ i. record { accepts = c.args.state.now.accepts; edges = (c.in_ok-edges.ensures.items ∙ c.as_slice.ensures.value) i }) none c.in_ok-insert.ensures.keys

pub invariant_of-self-2 : goal.invariant_of-self-2
invariant_of-self-2 c = (
  registry_grown c,
  omega (
    arith,
    length-map c.insert.new.self.keys state_of,
    length-map c.self.inside.states.keys state_of,
    ap length (grown c),
    length-append (map state_of c.self.inside.states.keys) (state_of c.args.state.now ∷ []),
    c.len-count.ensures.len,
    c.if-count.false,
  ),
)

pub returns-clause-number : goal.returns-clause-number
returns-clause-number c =
    subst (λ (states : List StateValue). slice_get states c.len-count.result ≡ Some (state_of c.args.state.now)) (sym (grown c))
    (stands_last (map state_of c.self.inside.states.keys) (state_of c.args.state.now) c.len-count.result (c.len-count.ensures.len ∙ sym (length-map c.self.inside.states.keys state_of)))

pub returns-clause-grows : goal.returns-clause-grows
returns-clause-grows c = (
  state_of c.args.state.now ∷ [],
  grown c ∙ ap (λ (states : List StateValue). states ++ state_of c.args.state.now ∷ []) c.self.view_is,
  λ y held. elim (Contains-cases (state_of c.args.state.now) [] y held) [ inl same ↦ same | inr none ↦ absurd (Contains-none y none) ],
)

pub returns-clause-registry : goal.returns-clause-registry
returns-clause-registry c = registry_grown c
