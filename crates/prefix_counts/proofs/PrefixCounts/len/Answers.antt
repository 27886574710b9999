use Rattle.std.proofs.Common.{length, ap, subst, arith}
use Rattle.prefix_counts.specs.Prefixes.{Prefixes, ArePrefixes}
use Rattle.prefix_counts.proofs.NodeLemmas.{lists_of-length, prefixes}
use Rattle.prefix_counts.proofs.PrefixCounts.len.Goals as goal

pub returns-clause-count : goal.returns-clause-count
returns-clause-count c =
    let long = lists_of-length c.self.inside.nodes.items in
    let view = ap (λ (p : Prefixes). length p.lists) c.self.view_is in
    omega (arith, long, view, c.len.ensures)

pub returns-clause-prefixes : goal.returns-clause-prefixes
returns-clause-prefixes c =
    subst ArePrefixes c.self.view_is (prefixes c.self.inside.nodes.items c.self.inside.slots.items c.self.invariant)
