use Rattle.std.proofs.Common.{◌≡◌, suc, ◌-◌, Some, length, ap, subst, arith, refl, slice_get}
use Rattle.std.proofs.lemmas.Option.{slice_get_read}
use Rattle.prefix_counts.specs.Prefixes.{Prefixes}
use Rattle.prefix_counts.proofs.NodeLemmas.{lists_of-length, sum_here}
use Rattle.prefix_counts.proofs.PrefixCounts.sum.Goals as goal

pub index-requires : goal.index-requires
index-requires c =
    let long = lists_of-length c.self.inside.nodes.items in
    let view = ap (λ (p : Prefixes). length p.lists) c.self.view_is in
    omega (arith, long, view, c.requires.some, c.requires.within)

pub returns : goal.returns
returns c =
    let long = lists_of-length c.self.inside.nodes.items in
    let view = ap (λ (p : Prefixes). length p.lists) c.self.view_is in
    let at = slice_get_read c.self.inside.nodes.items (length c.self.inside.nodes.items) (c.args.number - 1) c.index.result.now refl (omega (arith, long, view, c.requires.some, c.requires.within)) c.index.ensures in
    let next : c.args.number ≡ suc (c.args.number - 1) = omega (arith, c.requires.some) in
    subst (λ (p : Prefixes). slice_get p.sums c.args.number ≡ Some c.index.result.now.sum) c.self.view_is
    (sum_here c.self.inside.nodes.items (c.args.number - 1) c.args.number c.index.result.now at next)
