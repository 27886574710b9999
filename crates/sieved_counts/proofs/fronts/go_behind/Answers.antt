use Rattle.std.specs.List.{slice_get}
use Rattle.sieved_counts.proofs.GoneLemmas.{gone-behind}
use Rattle.sieved_counts.proofs.fronts.go_behind.Goals as goal

pub returns-clause-gone : goal.returns-clause-gone
returns-clause-gone g c = λ list of.
    gone-behind (slice_get c.args.sieve.now c.args.before) c.args.weight list c.edges_of-edges.result.now (g.B.Branches.nodes c.expand.new.self) c.args.front
    c.in_ok-expand.ensures.expanded c.edges_of-edges.ensures.edges c.edges_of-edges.ensures.within c.args.counts.now c.count_edges.new.counts
    c.args.next.now.items c.count_edges.new.next.items (c.in_ok-count_edges.ensures list of)
