use Rattle.std.proofs.Common.{◌≡◌, ◌<◌, List, [], length, arith, ap, ◌∙◌, sym}
use Rattle.std.proofs.lemmas.List.{get_or_default}
use Rattle.mine_model.specs.declared.item.Item.{Item}
use Rattle.mine_model.specs.Support.{Sequence}
use Rattle.mine_model.specs.Database.{sequence_at, sequences_of, IsWithinLimits}
use Rattle.mine_model.proofs.DatabaseLemmas.{length-sequences_of, sequence_at-of}
use Rattle.mine_model.proofs.database.Db.weight.Goals as goal
use Rattle.mine_model.proofs.database.Db.weight.Goals.{After-index}

pub index-requires : goal.index-requires
index-requires c =
    omega (arith, c.requires, length-sequences_of c.self.inside.sequences.lists c.self.inside.weights.items c.self.invariant.each, ap length c.self.view_is, c.self.invariant.each, c.self.inside.weights.ok.0)

module _ (c : After-index) where
  within : c.args.i < length c.self.inside.sequences.lists
  within =
      omega (arith, c.requires, length-sequences_of c.self.inside.sequences.lists c.self.inside.weights.items c.self.invariant.each, ap length c.self.view_is)

  weight : c.index.result.now ≡ (sequence_at (sequences_of c.self.inside.sequences.lists c.self.inside.weights.items) c.args.i).weight
  weight =
      c.index.ensures ∙ get_or_default c.self.inside.weights.items c.args.i c.index.result.now 0 (omega (arith, within, c.self.invariant.each))
      ∙ sym (ap (λ (s : Sequence Item). s.weight) (sequence_at-of c.self.inside.sequences.lists c.self.inside.weights.items c.args.i c.self.invariant.each within))

  limits : IsWithinLimits (sequence_at (sequences_of c.self.inside.sequences.lists c.self.inside.weights.items) c.args.i)
  limits =
      let count = length-sequences_of c.self.inside.sequences.lists c.self.inside.weights.items c.self.invariant.each in
      c.self.invariant.limits c.args.i (record { items = []; weight = 0 }) (omega (arith, count, within))

pub returns-clause-weight : goal.returns-clause-weight
returns-clause-weight c =
    let at = (goal.at.returns-clause-weight c).After-index in
    weight at ∙ ap (λ (w : List (Sequence Item)). (sequence_at w c.args.i).weight) c.self.view_is

pub returns-clause-least : goal.returns-clause-least
returns-clause-least c =
    let at = (goal.at.returns-clause-least c).After-index in
    omega (arith, weight at, (limits at).least)

pub returns-clause-most : goal.returns-clause-most
returns-clause-most c =
    let at = (goal.at.returns-clause-most c).After-index in
    omega (arith, weight at, (limits at).most)
