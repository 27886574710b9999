use Rattle.std.proofs.Common.{◌-◌, length, ap, subst, arith, refl}
use Rattle.std.proofs.lemmas.Option.{slice_get_read}
use Rattle.prefix_counts.specs.Nodes.{IsNodeOf}
use Rattle.prefix_counts.specs.Prefixes.{Prefixes}
use Rattle.prefix_counts.proofs.NodeLemmas.{lists_of-length, node_here}
use Rattle.prefix_counts.proofs.PrefixCounts.node.Goals as goal

pub index-requires : goal.index-requires
index-requires c =
    let long = lists_of-length c.self.inside.nodes.items in
    let view = ap (λ (p : Prefixes). length p.lists) c.self.view_is in
    omega (arith, long, view, c.requires.some, c.requires.within)

pub returns : goal.returns
returns c =
    let long = lists_of-length c.self.inside.nodes.items in
    let view = ap (λ (p : Prefixes). length p.lists) c.self.view_is in
    let at = slice_get_read c.self.inside.nodes.items (length c.self.inside.nodes.items) (c.args.number - 1) c.index.result.now refl (omega (arith, long, view, c.requires.some, c.requires.within)) c.index.ensures in
    subst (λ (p : Prefixes). IsNodeOf p c.args.number c.index.result.now) c.self.view_is
    (node_here c.self.inside.nodes.items c.self.inside.slots.items c.self.invariant c.args.number c.index.result.now c.requires.some at)
