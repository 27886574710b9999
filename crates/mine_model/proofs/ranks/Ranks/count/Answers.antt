use Rattle.std.proofs.Common.{◌≤◌, length, subst, arith}
use Rattle.mine_model.specs.Ranks.{Ranking}
use Rattle.mine_model.proofs.RankLemmas.{length-le_from_items}
use Rattle.mine_model.proofs.ranks.Ranks.count.Goals as goal

pub overflow_cast-result : goal.overflow_cast-result
overflow_cast-result c =
    let few : length c.self.inside.order.items ≤ length c.self.inside.frequencies.items =
    length-le_from_items c.self.inside.order.items (length c.self.inside.frequencies.items) c.self.invariant.different c.self.invariant.within in
    omega (arith, few, c.self.invariant.few)

pub returns-clause-most : goal.returns-clause-most
returns-clause-most c =
    let few : length c.self.inside.order.items ≤ length c.self.inside.frequencies.items =
    length-le_from_items c.self.inside.order.items (length c.self.inside.frequencies.items) c.self.invariant.different c.self.invariant.within in
    let Few : Ranking → Type 0 = λ r. length c.self.inside.order.items ≤ length r.frequencies in
    let seen : length c.self.inside.order.items ≤ length c.args.self.now.frequencies = subst Few c.self.view_is few in
    omega (arith, seen, c.len.ensures, c.self.inside.order.ok.0)
