use Rattle.std.proofs.Common.{◌≡◌, [], ◌∷◌, ◌++◌, map, subst, sym, ap, ◌∙◌, arith}
use Rattle.std.proofs.lemmas.List.{map_push, length-map}
use Rattle.mine_model.specs.Names.{AreDistinct}
use Rattle.mine_model.proofs.ListLemmas.{of_both}
use Rattle.mine_model.proofs.NameLemmas.{AreDistinct-push}
use Rattle.item_names.specs.Table.{key_of, AreBytes}
use Rattle.item_names.proofs.KeyLemmas.{AreBytes-from}
use Rattle.item_names.proofs.Names.append.Goals as goal

distinct : (c : goal.After-place) → AreDistinct c.push.new.self
distinct c =
    subst AreDistinct (sym c.in_ok-push.ensures.ok) (AreDistinct-push c.self.inside.texts c.args.name.now c.self.invariant.0 (rw c.self.view_is c.requires.new))

-- the keys of the names with the new one
keys : (c : goal.After-place) → map key_of c.push.new.self ≡ map key_of c.self.inside.texts ++ c.args.key ∷ []
keys c =
    ap (map key_of) c.in_ok-push.ensures.ok ∙ map_push key_of c.self.inside.texts c.args.name.now
    ∙ ap (λ key. map key_of c.self.inside.texts ++ key ∷ []) (sym c.requires.key)

pub invariant_of-self-2 : goal.invariant_of-self-2
invariant_of-self-2 c =
    let count = length-map c.self.inside.texts key_of in (
      distinct c,
      rw c.in_ok-push.ensures.ok (of_both AreBytes c.self.inside.texts (c.args.name.now ∷ []) c.self.invariant.1 (AreBytes-from c.args.name.now c.type_inv.name, tt)),
      rw (keys c) (c.place.ensures.table (map key_of c.self.inside.texts) c.in_ok-make_room.ensures.table (omega (arith, count, c.count-number.ensures.count))
          (omega (arith, c.in_ok-make_room.ensures.room, c.count-number.ensures.count))),
    )

pub returns-clause-distinct : goal.returns-clause-distinct
returns-clause-distinct c = distinct c
