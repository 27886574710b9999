use Rattle.prefix_sieve.proofs.FrontLemmas.{raised-behind}
use Rattle.prefix_sieve.proofs.raising.raise_behind.Goals as goal

pub returns-clause-raised : goal.returns-clause-raised
returns-clause-raised g c =
    raised-behind (g.B.Branches.nodes c.expand.new.self) c.args.front c.args.weight c.edges_of-edges.result.now c.args.buckets.now c.raise_edges.new.buckets
    c.in_ok-expand.ensures.expanded c.edges_of-edges.ensures.edges c.raise_edges.ensures.raised
