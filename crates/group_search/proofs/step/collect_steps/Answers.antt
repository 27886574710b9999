use Rattle.std.proofs.Common.{rules, ◌++◌, List, get_or, ap, ◌∙◌}
use Rattle.std.proofs.lemmas.Fn.{always_returns_same}
use Rattle.std.proofs.lemmas.List.Elements.{Contains-get_or}
use Rattle.group_search.specs.declared.loads.LoadedState.{LoadedState}
use Rattle.group_search.specs.declared.step.Step.{Step}
use Rattle.group_search.specs.Steps.{steps_along}
use Rattle.group_search.proofs.WeighLemmas.{steps-more}
use Rattle.group_search.proofs.RunLemmas.{by-rank}
use Rattle.group_search.proofs.step.collect_steps.Goals as goal

abbrev none : LoadedState
none = record { state = 0; weight = 0 }

pub edges-requires : goal.edges-requires
edges-requires g c = c.requires (get_or c.args.loads.now c.loads.load-index none) (Contains-get_or c.args.loads.now c.loads.load-index none c.loads-test.true)

pub loads-preserved : goal.loads-preserved
loads-preserved g c =
    let load : LoadedState = get_or c.args.loads.now c.loads.load-index none in
    c.in_ok-push_steps.ensures
    ∙ ap (λ (l : List Step). l ++ steps_along load.weight c.edges.result.now) c.loads.invariant
    ∙ steps-more (g.A.Automata.states_of c.args.automata.now) c.args.loads.now c.loads.load-index none c.edges.ensures.0 c.edges.result.now c.loads-test.true c.edges.ensures.1 c.edges.ensures.2

pub returns-clause-sorted : goal.returns-clause-sorted
returns-clause-sorted g c =
    by-rank c.sort_unstable_by_key.new.self.items (c.sort_unstable_by_key.ensures.sorted (λ (s : Step). (s.rank, s.state)) (always_returns_same _ _ _ (λ a r f k. search rules)))
