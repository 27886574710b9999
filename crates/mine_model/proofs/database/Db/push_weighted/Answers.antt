use Rattle.std.proofs.Common.{◌≡◌, ◌<◌, ◌++◌, [], ◌∷◌, length, arith, ap}
use Rattle.mine_model.specs.Limits.{most_sequences}
use Rattle.mine_model.proofs.DatabaseLemmas.{length-sequences_of, sequences_of-push, AreWeighted-push}
use Rattle.mine_model.proofs.database.Db.push_weighted.Goals as goal
use Rattle.mine_model.proofs.database.Db.push_weighted.Goals.{After-push_reserved}

module _ (c : After-push_reserved) where
  few : length c.self.inside.sequences.lists < most_sequences
  few =
      omega (arith, length-sequences_of c.self.inside.sequences.lists c.self.inside.weights.items c.self.invariant.each, ap length c.self.view_is, c.requires.few)

  weights : c.push_reserved.new.self.items ≡ c.self.inside.weights.items ++ c.args.weight ∷ []
  weights = rw (c.in_ok-reserve.ensures.items) at c.push_reserved.ensures.items

pub invariant_of-self-2 : goal.invariant_of-self-2
invariant_of-self-2 c =
    rw (c.in_ok-push.ensures.ok, weights c)
    (AreWeighted-push c.self.inside.sequences.lists c.self.inside.weights.items c.args.items.now c.args.weight c.self.invariant (few c)
    c.requires.short c.requires.least c.requires.most)

pub returns-clause-ok : goal.returns-clause-ok
returns-clause-ok c =
    rw (c.in_ok-push.ensures.ok, weights c, ← c.self.view_is)
    (sequences_of-push c.self.inside.sequences.lists c.self.inside.weights.items c.args.items.now c.args.weight c.self.invariant.each)
