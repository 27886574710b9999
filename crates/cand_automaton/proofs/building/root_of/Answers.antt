use Rattle.std.proofs.Common.{◌∙◌, List, sym, subst}
use Rattle.std.proofs.lemmas.Result.{IfOk-weaker}
use Rattle.candidate_graph.specs.Graphs.{Node, IsWhole}
use Rattle.sequence_grids.specs.Grids.{items_at}
use Rattle.candidate_states.specs.Roots.{IsRootOf}
use Rattle.cand_automaton.specs.Roots.{IsRootWithin}
use Rattle.sequence_candidates.proofs.KeptLemmas.{begun-are, some-nodes}
use Rattle.cand_automaton.proofs.RootLemmas.{some-graph, root-within}
use Rattle.cand_automaton.proofs.building.root_of.Goals as goal

pub root_state-requires-clause-graph : goal.root_state-requires-clause-graph
root_state-requires-clause-graph c =
    let part = c.args.candidates.now.part in
    let are = begun-are part c.expand_all.new.self.part c.expand_all.new.self.begun c.args.index c.expand_all.new.self.nodes c.graph.result.now.nodes
    (c.expand_all.ensures.part ∙ c.begin.ensures.part) (c.expand_all.ensures.begun ∙ c.in_ok-begin.ensures.begun) c.graph.ensures.nodes c.graph.ensures.candidates in
    some-graph part (items_at part c.args.index) c.graph.result.now.nodes are

pub root_state-requires-clause-whole : goal.root_state-requires-clause-whole
root_state-requires-clause-whole c = subst IsWhole (sym c.graph.ensures.nodes) c.in_ok-expand_all.ensures.whole

pub root_state-requires-clause-trim : goal.root_state-requires-clause-trim
root_state-requires-clause-trim c =
    let part = c.args.candidates.now.part in
    let are = begun-are part c.expand_all.new.self.part c.expand_all.new.self.begun c.args.index c.expand_all.new.self.nodes c.graph.result.now.nodes
    (c.expand_all.ensures.part ∙ c.begin.ensures.part) (c.expand_all.ensures.begun ∙ c.in_ok-begin.ensures.begun) c.graph.ensures.nodes c.graph.ensures.candidates in
    c.edges_end_or_lead_on.ensures part (items_at part c.args.index) c.graph.result.now.nodes are (subst IsWhole (sym c.graph.ensures.nodes) c.in_ok-expand_all.ensures.whole)

pub root_state-requires-clause-root : goal.root_state-requires-clause-root
root_state-requires-clause-root c =
    let part = c.args.candidates.now.part in
    let are = begun-are part c.expand_all.new.self.part c.expand_all.new.self.begun c.args.index c.expand_all.new.self.nodes c.graph.result.now.nodes
    (c.expand_all.ensures.part ∙ c.begin.ensures.part) (c.expand_all.ensures.begun ∙ c.in_ok-begin.ensures.begun) c.graph.ensures.nodes c.graph.ensures.candidates in
    some-nodes part (items_at part c.args.index) c.graph.result.now.nodes are

pub returns-clause-root : goal.returns-clause-root
returns-clause-root c =
    let part = c.args.candidates.now.part in
    let nodes : List Node = c.graph.result.now.nodes in
    let are = begun-are part c.expand_all.new.self.part c.expand_all.new.self.begun c.args.index c.expand_all.new.self.nodes nodes
    (c.expand_all.ensures.part ∙ c.begin.ensures.part) (c.expand_all.ensures.begun ∙ c.in_ok-begin.ensures.begun) c.graph.ensures.nodes c.graph.ensures.candidates in
    IfOk-weaker c.root_state.result (IsRootOf nodes c.root_state.new.registry) (IsRootWithin part (items_at part c.args.index) c.root_state.new.registry)
    (λ root is. root-within part (items_at part c.args.index) nodes c.root_state.new.registry root
    (c.whole_graphs_accept_the_patterns.ensures part (items_at part c.args.index) nodes are (subst IsWhole (sym c.graph.ensures.nodes) c.in_ok-expand_all.ensures.whole)) is)
    c.root_state.ensures.root
