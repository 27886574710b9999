use Rattle.std.specs.List.{slice_get}
use Rattle.prefix_sieve.proofs.FrontLemmas.{gone-behind}
use Rattle.prefix_sieve.proofs.fronts.go_behind.Goals as goal

pub returns-clause-gone : goal.returns-clause-gone
returns-clause-gone g c =
    gone-behind (slice_get c.args.sieve.now c.args.before) c.args.front c.edges_of-edges.result.now (g.B.Branches.nodes c.expand.new.self) c.args.next.now.items c.add_fronts.new.next.items
    c.in_ok-expand.ensures.expanded c.edges_of-edges.ensures.edges c.edges_of-edges.ensures.within c.in_ok-add_fronts.ensures
