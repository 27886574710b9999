use Rattle.std.proofs.Common.{ap, length, arith, List, subst, All}
use Rattle.mine_model.specs.declared.item.Item.{Item}
use Rattle.mine_model.specs.Support.{Sequence}
use Rattle.mine_model.specs.Database.{IsWithinLimits}
use Rattle.mine_model.proofs.DatabaseLemmas.{length-sequences_of}
use Rattle.mine_model.proofs.database.Db.sequences.Goals as goal

pub returns-clause-count : goal.returns-clause-count
returns-clause-count c =
    omega (arith, c.len.ensures, c.self.inside.weights.ok.0, c.self.invariant.each, length-sequences_of c.self.inside.sequences.lists c.self.inside.weights.items c.self.invariant.each, ap length c.self.view_is)

pub returns-clause-limits : goal.returns-clause-limits
returns-clause-limits c = subst (λ (w : List (Sequence Item)). All IsWithinLimits w) c.self.view_is c.self.invariant.limits
