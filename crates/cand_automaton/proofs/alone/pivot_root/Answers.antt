use Rattle.std.proofs.Common.{List, sym, subst}
use Rattle.std.proofs.lemmas.Result.{IfOk-weaker}
use Rattle.mining_job.specs.Problems.{data_of, items_of}
use Rattle.sequence_grids.specs.Grids.{items_at}
use Rattle.candidate_graph.specs.Graphs.{Node, IsWhole}
use Rattle.candidate_states.specs.Roots.{IsPivotRootOf}
use Rattle.graph_order.specs.Orders.{AreInOrder}
use Rattle.cand_automaton.specs.Roots.{IsRootFor}
use Rattle.cand_automaton.specs.Wholes.{part_alone}
use Rattle.sequence_candidates.proofs.KeptLemmas.{begun-are, some-nodes}
use Rattle.cand_automaton.proofs.RootLemmas.{some-graph}
use Rattle.cand_automaton.proofs.AloneLemmas.{root-alone}
use Rattle.cand_automaton.proofs.alone.pivot_root.Goals as goal

pub pivot_state-requires-clause-graph : goal.pivot_state-requires-clause-graph
pivot_state-requires-clause-graph c =
    let part = part_alone c.args.job.now c.args.seq in
    let value = c.args.candidates.now in
    let are = begun-are part value.part value.begun 0 value.nodes c.graph.result.now.nodes c.requires.whole.part c.requires.whole.begun c.graph.ensures.nodes c.graph.ensures.candidates in
    some-graph part (items_at part 0) c.graph.result.now.nodes are

pub pivot_state-requires-clause-whole : goal.pivot_state-requires-clause-whole
pivot_state-requires-clause-whole c = subst IsWhole (sym c.graph.ensures.nodes) c.requires.whole.whole

pub pivot_state-requires-clause-order : goal.pivot_state-requires-clause-order
pivot_state-requires-clause-order c = subst (λ (l : List Node). AreInOrder l c.args.order.now) (sym c.graph.ensures.nodes) c.requires.whole.order_is

pub pivot_state-requires-clause-root : goal.pivot_state-requires-clause-root
pivot_state-requires-clause-root c =
    let part = part_alone c.args.job.now c.args.seq in
    let value = c.args.candidates.now in
    let are = begun-are part value.part value.begun 0 value.nodes c.graph.result.now.nodes c.requires.whole.part c.requires.whole.begun c.graph.ensures.nodes c.graph.ensures.candidates in
    some-nodes part (items_at part 0) c.graph.result.now.nodes are

pub returns-clause-root : goal.returns-clause-root
returns-clause-root c =
    let problem = c.args.job.now in
    let part = part_alone problem c.args.seq in
    let value = c.args.candidates.now in
    let nodes : List Node = c.graph.result.now.nodes in
    let are = begun-are part value.part value.begun 0 value.nodes nodes c.requires.whole.part c.requires.whole.begun c.graph.ensures.nodes c.graph.ensures.candidates in
    let states = c.pivot_state.new.registry in
    IfOk-weaker c.pivot_state.result (IsPivotRootOf nodes c.args.pivot states) (IsRootFor (data_of problem) problem.ranking.order c.args.pivot (items_of problem c.args.seq) states)
    (λ root is. root-alone problem c.threshold-threshold.ensures.whole.ranks.once c.args.seq c.args.pivot c.requires.least nodes states root
    (c.whole_graphs_accept_the_patterns.ensures part (items_at part 0) nodes are (subst IsWhole (sym c.graph.ensures.nodes) c.requires.whole.whole)) is)
    c.pivot_state.ensures.root
