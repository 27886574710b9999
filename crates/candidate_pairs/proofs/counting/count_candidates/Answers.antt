use Rattle.std.proofs.Common.{◌≡◌, ◌∙◌, ℕ, Some, List, sym, subst}
use Rattle.std.proofs.lemmas.Result.{IfOk-weaker}
use Rattle.mine_model.specs.Counted.{HasCandidates, IsTold}
use Rattle.mining_job.specs.Problems.{data_of}
use Rattle.sequence_grids.specs.Grids.{items_at}
use Rattle.candidate_graph.specs.Graphs.{Node, IsWhole}
use Rattle.candidate_pairs.specs.Paths.{HasPaths}
use Rattle.sequence_candidates.proofs.KeptLemmas.{begun-are, some-nodes}
use Rattle.candidate_pairs.proofs.CandidateLemmas.{told-candidates, some-graph}
use Rattle.candidate_pairs.proofs.counting.count_candidates.Goals as goal

pub count_paths-requires-clause-graph : goal.count_paths-requires-clause-graph
count_paths-requires-clause-graph c =
    let part = c.args.candidates.now.part in
    let later = c.expand_all.new.self in
    let (index, begun) = c.requires.begun in
    some-graph part (items_at part index) c.graph.result.now.nodes
    (begun-are part later.part later.begun index later.nodes c.graph.result.now.nodes c.expand_all.ensures.part (c.expand_all.ensures.begun ∙ begun) c.graph.ensures.nodes c.graph.ensures.candidates)

pub count_paths-requires-clause-whole : goal.count_paths-requires-clause-whole
count_paths-requires-clause-whole c = subst IsWhole (sym c.graph.ensures.nodes) c.in_ok-expand_all.ensures.whole

pub count_paths-requires-clause-root : goal.count_paths-requires-clause-root
count_paths-requires-clause-root c =
    let part = c.args.candidates.now.part in
    let later = c.expand_all.new.self in
    let (index, begun) = c.requires.begun in
    some-nodes part (items_at part index) c.graph.result.now.nodes
    (begun-are part later.part later.begun index later.nodes c.graph.result.now.nodes c.expand_all.ensures.part (c.expand_all.ensures.begun ∙ begun) c.graph.ensures.nodes c.graph.ensures.candidates)

pub returns-clause-count : goal.returns-clause-count
returns-clause-count c =
    let problem = c.args.job.now in
    let part = c.args.candidates.now.part in
    let later = c.expand_all.new.self in
    let nodes : List Node = c.graph.result.now.nodes in
    IfOk-weaker c.count_paths.result (IsTold (HasPaths nodes 0))
    (λ told. (index : ℕ) → c.args.candidates.now.begun ≡ Some index → IsTold (HasCandidates (data_of problem) (items_at part index)) told)
    (λ told is index begun.
    let are = begun-are part later.part later.begun index later.nodes nodes c.expand_all.ensures.part (c.expand_all.ensures.begun ∙ begun) c.graph.ensures.nodes c.graph.ensures.candidates in
    told-candidates problem part (items_at part index) nodes told c.requires.problem c.threshold-threshold.ensures.whole c.requires.bound
    (c.whole_graphs_accept_the_patterns.ensures part (items_at part index) nodes are (subst IsWhole (sym c.graph.ensures.nodes) c.in_ok-expand_all.ensures.whole)) is)
    c.count_paths.ensures
