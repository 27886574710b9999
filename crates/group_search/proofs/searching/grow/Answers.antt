use Rattle.std.proofs.Common.{◌≡◌, ◌≤◌, ◌<◌, ◌^◌, ℕ, true, List, [], length, All, sym, ◌∙◌, subst, arith}
use Rattle.mine_model.specs.Limits.{most_length}
use Rattle.automaton_model.specs.Automata.{StateValue}
use Rattle.group_search.specs.declared.step.Step.{Step}
use Rattle.group_search.specs.Steps.{weigh_by}
use Rattle.group_search.specs.Waits.{Wait}
use Rattle.group_search.proofs.WeighLemmas.{weight_behind}
use Rattle.group_search.proofs.SearchLemmas.{here-is, sound-ranks, sound-fits}
use Rattle.group_search.proofs.searching.grow.Goals as goal

pub push_row-requires : goal.push_row-requires
push_row-requires g c = λ enough.
    let states : List StateValue = g.A.Automata.states_of c.args.automata.now in
    let wait : Wait = record { prefix = c.args.stack.now.prefix.items; loads = c.args.loads.now } in
    let sound = c.requires.sound in
    let weight : c.weight_here-weight.result ≡ weight_behind states [] c.args.loads.now = c.weight_here-weight.ensures ∙ here-is states c.args.loads.now sound.there in
    let least : 1 ≤ c.args.threshold = c.requires.least in
    let some : 1 ≤ weight_behind states [] c.args.loads.now = omega (arith, least, enough, weight) in
    subst (λ (l : List ℕ). All (λ rank. (1 ≤ rank) × (rank ≤ length c.args.ranks.now.order)) l) (sym c.as_slice.ensures.value)
    (sound-ranks states (length c.args.ranks.now.order) most_length wait sound some)

pub push_kids-requires-clause-fits : goal.push_kids-requires-clause-fits
push_kids-requires-clause-fits g c = λ rank.
    let states : List StateValue = g.A.Automata.states_of c.args.automata.now in
    let wait : Wait = record { prefix = c.args.stack.now.prefix.items; loads = c.args.loads.now } in
    subst (λ (l : List Step). weigh_by rank (λ state. true) l < 2 ^ 64) (sym c.as_slice-2.ensures.value)
    (sound-fits states c.requires.trim (length c.args.ranks.now.order) most_length wait c.requires.sound c.collect_steps.new.steps.items c.in_ok-collect_steps.ensures.same rank)
