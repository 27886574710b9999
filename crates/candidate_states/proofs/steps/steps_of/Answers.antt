use Rattle.graph_order.proofs.StepLemmas.{whole-expanded, steps-of, steps-rising}
use Rattle.candidate_states.proofs.StageLemmas.{steps-exact, taken-rising}
use Rattle.candidate_states.proofs.steps.steps_of.Goals as goal

pub edges_of-steps-requires : goal.edges_of-steps-requires
edges_of-steps-requires c = whole-expanded c.args.graph.now.nodes c.args.node c.requires.whole c.requires.node

pub count_up_to-requires : goal.count_up_to-requires
count_up_to-requires c =
    let nodes = c.args.graph.now.nodes in
    let list = c.edges_of-steps.result.now in
    steps-rising nodes c.args.node list (steps-of nodes c.args.node list c.requires.whole c.requires.node c.edges_of-steps.ensures) c.requires.graph

pub returns-clause-rising : goal.returns-clause-rising
returns-clause-rising c =
    let nodes = c.args.graph.now.nodes in
    let list = c.edges_of-steps.result.now in
    taken-rising list c.count_up_to.result c.count_up_to.ensures.within
    (steps-rising nodes c.args.node list (steps-of nodes c.args.node list c.requires.whole c.requires.node c.edges_of-steps.ensures) c.requires.graph)

pub returns-clause-exact : goal.returns-clause-exact
returns-clause-exact c =
    let nodes = c.args.graph.now.nodes in
    let list = c.edges_of-steps.result.now in
    steps-exact nodes c.args.node list (steps-of nodes c.args.node list c.requires.whole c.requires.node c.edges_of-steps.ensures) c.args.pivot c.count_up_to.result
    c.count_up_to.ensures.within c.count_up_to.ensures.exact
