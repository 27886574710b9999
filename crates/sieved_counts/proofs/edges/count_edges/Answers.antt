use Rattle.std.proofs.Common.{◌^◌, false, get_or}
use Rattle.std.specs.List.{slice_get}
use Rattle.std.proofs.lemmas.Option.{slice_get-get_or, slice_get_within}
use Rattle.candidate_graph.specs.declared.edge.Edge.{Edge}
use Rattle.sieved_counts.specs.Fronts.{HasGone}
use Rattle.sieved_counts.proofs.GoneLemmas.{ByEdges, kept-at, front-kept, edges-none, edges-room, edges-more, edges-all}
use Rattle.sieved_counts.proofs.edges.count_edges.Goals as goal

abbrev no_edge : Edge
no_edge = record { rank = 0; ends = false; next = 0 }

pub loop-edge-init : goal.loop-edge-init
loop-edge-init c = λ list of. edges-none (slice_get c.args.sieve.now c.args.before) c.args.weight list c.args.edges.now c.args.counts.now c.args.next.now.items

pub count_edge-requires-clause-number : goal.count_edge-requires-clause-number
count_edge-requires-clause-number c =
    let (list, of) = c.requires.front in
    let (more, is, led) = (c.loop-edge.invariant list of).kept in
    slice_get_within c.loop-edge.counts.lists c.args.front.number list
    (kept-at c.args.counts.now.lists c.loop-edge.counts.lists more is c.args.front.number list of.number)

pub count_edge-requires-clause-room : goal.count_edge-requires-clause-room
count_edge-requires-clause-room c =
    let (list, of) = c.requires.front in
    let edge : Edge = get_or c.args.edges.now c.loop-edge.edge-index no_edge in
    edges-room (slice_get c.args.sieve.now c.args.before) c.args.weight list c.args.edges.now c.requires.rising c.loop-edge.edge-index edge
    (slice_get-get_or c.args.edges.now c.loop-edge.edge-index no_edge c.loop-edge-test.true) c.args.counts.now c.loop-edge.counts c.args.front
    c.args.next.now.items c.loop-edge.next.items (2 ^ 64) of (c.loop-edge.invariant list of) (c.requires.room list edge.rank of.number)

pub loop-edge-preserved : goal.loop-edge-preserved
loop-edge-preserved c = λ list of.
    let edge : Edge = get_or c.args.edges.now c.loop-edge.edge-index no_edge in
    let gone : HasGone (ByEdges (slice_get c.args.sieve.now c.args.before) list c.args.edges.now c.loop-edge.edge-index) c.args.weight
    c.args.counts.now c.loop-edge.counts c.args.next.now.items c.loop-edge.next.items = c.loop-edge.invariant list of in
    let (more, is, led) = gone.kept in
    edges-more (slice_get c.args.sieve.now c.args.before) c.args.weight list c.args.edges.now c.requires.rising c.loop-edge.edge-index edge
    (slice_get-get_or c.args.edges.now c.loop-edge.edge-index no_edge c.loop-edge-test.true) c.args.counts.now c.loop-edge.counts c.count_edge.new.counts
    c.args.next.now.items c.loop-edge.next.items c.count_edge.new.next.items gone
    (c.in_ok-count_edge.ensures list (front-kept c.args.counts.now.lists c.loop-edge.counts.lists more is list c.args.front of))

pub returns : goal.returns
returns c = λ list of.
    edges-all (slice_get c.args.sieve.now c.args.before) c.args.weight list c.args.edges.now c.loop-edge.edge-index c.loop-edge-test.false
    c.args.counts.now c.loop-edge.counts c.args.next.now.items c.loop-edge.next.items (c.loop-edge.invariant list of)
