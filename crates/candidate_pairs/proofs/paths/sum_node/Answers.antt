use Rattle.std.proofs.Common.{◌≡◌, ◌<◌, ◌∙◌, ℕ, List, length, sum_by, sym, ap, subst, arith}
use Rattle.mine_model.specs.Counted.{told_of, IsTold}
use Rattle.candidate_graph.specs.declared.edge.Edge.{Edge}
use Rattle.graph_order.proofs.StepLemmas.{AreStepsOf, whole-expanded, steps-of, steps-inside}
use Rattle.candidate_pairs.specs.Paths.{HasPaths}
use Rattle.candidate_pairs.specs.Sums.{told_behind}
use Rattle.candidate_pairs.proofs.SumLemmas.{told-node, set-summed, set-keeps}
use Rattle.candidate_pairs.proofs.paths.sum_node.Goals as goal

pub edges_of-requires : goal.edges_of-requires
edges_of-requires c = whole-expanded c.args.graph.now.nodes c.args.node c.requires.whole c.requires.node

pub sum_of-sum-requires : goal.sum_of-sum-requires
sum_of-sum-requires c edge held =
    let nodes = c.args.graph.now.nodes in
    let edges : List Edge = c.edges_of.result.now in
    let are : AreStepsOf nodes c.args.node edges = steps-of nodes c.args.node edges c.requires.whole c.requires.node c.edges_of.ensures in
    let below : edge.next < length nodes = steps-inside nodes c.args.node edges are c.requires.graph edge held in
    subst (λ (sums : List ℕ). edge.next < length sums) (sym c.as_slice.ensures.value) (omega (arith, below, c.requires.long))

pub returns-clause-keeps : goal.returns-clause-keeps
returns-clause-keeps c =
    let nodes = c.args.graph.now.nodes in
    let edges : List Edge = c.edges_of.result.now in
    let are : AreStepsOf nodes c.args.node edges = steps-of nodes c.args.node edges c.requires.whole c.requires.node c.edges_of.ensures in
    let sum : c.sum_of-sum.result ≡ told_of (sum_by (told_behind c.args.sums.now.items) edges) =
    c.sum_of-sum.ensures ∙ ap (λ (sums : List ℕ). told_of (sum_by (told_behind sums) edges)) c.as_slice.ensures.value in
    let told = subst (IsTold (HasPaths nodes c.args.node)) (sym sum) (told-node nodes c.requires.graph c.args.node edges are c.args.sums.now.items c.requires.behind) in
    set-keeps nodes c.args.sums.now.items c.args.node c.sum_of-sum.result (omega (arith, c.requires.node, c.requires.long)) told

pub returns-clause-summed : goal.returns-clause-summed
returns-clause-summed c =
    let nodes = c.args.graph.now.nodes in
    let edges : List Edge = c.edges_of.result.now in
    let are : AreStepsOf nodes c.args.node edges = steps-of nodes c.args.node edges c.requires.whole c.requires.node c.edges_of.ensures in
    let sum : c.sum_of-sum.result ≡ told_of (sum_by (told_behind c.args.sums.now.items) edges) =
    c.sum_of-sum.ensures ∙ ap (λ (sums : List ℕ). told_of (sum_by (told_behind sums) edges)) c.as_slice.ensures.value in
    let told = subst (IsTold (HasPaths nodes c.args.node)) (sym sum) (told-node nodes c.requires.graph c.args.node edges are c.args.sums.now.items c.requires.behind) in
    set-summed nodes c.args.sums.now.items c.args.node c.sum_of-sum.result (omega (arith, c.requires.node, c.requires.long)) told
