use Rattle.std.proofs.Common.{false, get_or}
use Rattle.std.specs.List.{slice_get}
use Rattle.std.proofs.lemmas.Option.{slice_get-get_or}
use Rattle.candidate_graph.specs.declared.edge.Edge.{Edge}
use Rattle.prefix_sieve.proofs.FrontLemmas.{added-none, added-more, added-all}
use Rattle.prefix_sieve.proofs.fronts.add_fronts.Goals as goal

abbrev no_edge : Edge
no_edge = record { rank = 0; ends = false; next = 0 }

pub loop-edge-init : goal.loop-edge-init
loop-edge-init c = added-none (slice_get c.args.sieve.now c.args.before) c.args.front c.args.edges.now c.args.next.now.items

pub loop-edge-preserved : goal.loop-edge-preserved
loop-edge-preserved c =
    let edge : Edge = get_or c.args.edges.now c.loop-edge.edge-index no_edge in
    added-more (slice_get c.args.sieve.now c.args.before) c.args.front c.args.edges.now c.loop-edge.edge-index edge c.args.next.now.items c.loop-edge.next.items c.add_front.new.next.items
    (slice_get-get_or c.args.edges.now c.loop-edge.edge-index no_edge c.loop-edge-test.true) c.loop-edge.invariant c.in_ok-add_front.ensures

pub returns : goal.returns
returns c =
    added-all (slice_get c.args.sieve.now c.args.before) c.args.front c.args.edges.now c.loop-edge.edge-index c.args.next.now.items c.loop-edge.next.items
    c.loop-edge-test.false c.loop-edge.invariant
