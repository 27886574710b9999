use Rattle.std.proofs.Common.{List, get_or, ◌∙◌, subst}
use Rattle.std.specs.List.{Contains}
use Rattle.std.proofs.lemmas.Cmp.{nat_eq_equiv}
use Rattle.std.proofs.lemmas.List.Elements.{Contains-get_or}
use Rattle.std.proofs.lemmas.Map.Views.{list_any-from_Contains}
use Rattle.automaton_model.specs.Automata.{Edge}
use Rattle.automaton_model.proofs.coding.push_state.Goals as goal

pub unwrap-to-requires : goal.unwrap-to-requires
unwrap-to-requires c =
    let none : Edge = record { rank = 0; to = 0 } in
    let edge : Edge = get_or c.as_slice-edge-items.result.now c.edges.edge-index none in
    let held : Contains c.args.state.now.edges.items edge =
    subst (λ (edges : List Edge). Contains edges edge) c.edges.invariant.edges (Contains-get_or c.as_slice-edge-items.result.now c.edges.edge-index none c.edges-test.true) in
    c.get_index_of.ensures.found ∙ list_any-from_Contains nat_eq_equiv edge.to c.args.visited.now.keys (c.requires edge held)
