use Rattle.std.proofs.Common.{◌≡◌, ◌≤◌, ◌<◌, List, [], length, arith, ap, ◌∙◌, sym, subst}
use Rattle.std.proofs.lemmas.Option.{get_or_from_slice_get}
use Rattle.mine_model.specs.declared.item.Item.{Item}
use Rattle.mine_model.specs.Limits.{most_length}
use Rattle.mine_model.specs.Support.{Sequence}
use Rattle.mine_model.specs.Database.{sequence_at, sequences_of, IsWithinLimits}
use Rattle.mine_model.proofs.DatabaseLemmas.{length-sequences_of, sequence_at-of}
use Rattle.mine_model.proofs.database.Db.sequence.Goals as goal
use Rattle.mine_model.proofs.database.Db.sequence.Goals.{After-list}

pub list-requires : goal.list-requires
list-requires c =
    omega (arith, c.requires, length-sequences_of c.self.inside.sequences.lists c.self.inside.weights.items c.self.invariant.each, ap length c.self.view_is)

module _ (c : After-list) where
  within : c.args.i < length c.self.inside.sequences.lists
  within =
      omega (arith, c.requires, length-sequences_of c.self.inside.sequences.lists c.self.inside.weights.items c.self.invariant.each, ap length c.self.view_is)

  items : c.list.result.now ≡ (sequence_at (sequences_of c.self.inside.sequences.lists c.self.inside.weights.items) c.args.i).items
  items =
      sym (get_or_from_slice_get c.self.inside.sequences.lists c.args.i c.list.result.now [] c.list.ensures)
      ∙ sym (ap (λ (s : Sequence Item). s.items) (sequence_at-of c.self.inside.sequences.lists c.self.inside.weights.items c.args.i c.self.invariant.each within))

pub returns-clause-items : goal.returns-clause-items
returns-clause-items c = items c ∙ ap (λ (w : List (Sequence Item)). (sequence_at w c.args.i).items) c.self.view_is

pub returns-clause-most : goal.returns-clause-most
returns-clause-most c =
    let count = length-sequences_of c.self.inside.sequences.lists c.self.inside.weights.items c.self.invariant.each in
    let limits : IsWithinLimits (sequence_at (sequences_of c.self.inside.sequences.lists c.self.inside.weights.items) c.args.i) =
    c.self.invariant.limits c.args.i (record { items = []; weight = 0 }) (omega (arith, count, within c)) in
    subst (λ (s : List Item). length s ≤ most_length) (sym (items c)) limits.short
