use Rattle.std.proofs.Common.{◌≡◌, ◌<◌, ◌∙◌, ℕ, true, false, Some, None, List, length, sym, subst}
use Rattle.std.specs.List.{slice_get}
use Rattle.automaton_model.specs.declared.state.Edge.{Edge}
use Rattle.candidate_states.specs.declared.asked.Asked.{Asked}
use Rattle.candidate_states.specs.declared.numbers.Numbers.{Numbers}
use Rattle.candidate_states.specs.declared.stages.Stage.TheVariants.{Before}
use Rattle.candidate_states.specs.Stages.{asked_in, IsClosed, number_in, IsSettled}
use Rattle.candidate_states.proofs.LinkLemmas.{root-there, root-dead}
use Rattle.candidate_states.proofs.pivot.pivot_state.Goals as goal

pub number_all-requires-clause-closed : goal.number_all-requires-clause-closed
number_all-requires-clause-closed c =
    subst (λ (l : List Asked). (node : ℕ) → node < length c.args.graph.now.nodes → IsClosed c.args.graph.now.nodes c.args.pivot l node) (sym c.as_slice-asked.ensures.value) c.ask_all.ensures.closed

pub returns-in-Some-clause-root : goal.returns-in-Some-clause-root
returns-in-Some-clause-root c =
    let numbers : List Numbers = c.number_all.new.numbers.items in
    let found = subst (λ (l : List Numbers). c.number_of.result ≡ number_in l 0 Before) c.as_slice.ensures.value c.number_of.ensures in
    root-there c.args.graph.now.nodes c.args.pivot c.number_all.new.registry c.in-Some.root (c.number_all.ensures.states 0 Before c.in-Some.root (sym found ∙ c.in-Some.is))

pub returns-clause-root : goal.returns-clause-root
returns-clause-root c =
    let nodes = c.args.graph.now.nodes in
    let numbers : List Numbers = c.number_all.new.numbers.items in
    let found = subst (λ (l : List Numbers). c.number_of.result ≡ number_in l 0 Before) c.as_slice.ensures.value c.number_of.ensures in
    let none : number_in numbers 0 Before ≡ None = sym found ∙ c.in_default.is in
    let asked : asked_in c.ask_all.new.asked.items 0 Before ≡ true = c.ask_all.ensures.keeps 0 Before c.ask.ensures.here in
    let settled : IsSettled nodes c.args.pivot c.ask_all.new.asked.items numbers 0 =
    subst (λ (l : List Asked). IsSettled nodes c.args.pivot l numbers 0) c.as_slice-asked.ensures.value (c.in_ok-number_all.ensures.settled 0 c.requires.root) in
    root-dead nodes c.args.pivot c.number.new.self c.in_ok-number.field-0
    (subst (λ (l : List Edge). slice_get c.number.new.self c.in_ok-number.field-0 ≡ Some (record { accepts = false; edges = l })) c.clear.ensures.items c.in_ok-number.ensures.number) (settled Before asked none)
