use Rattle.std.proofs.Common.{◌≡◌, List, [], ◌∷◌, ◌++◌, OnOk, sym, subst}
use Rattle.mine_model.specs.declared.item.Item.{Item}
use Rattle.sequence_reader.proofs.JoiningLemmas.{numbers-known}
use Rattle.sequence_reader.proofs.joining.append_sequence.Goals as goal

pub returns : goal.returns
returns c =
    let known = c.are_known.ensures c.if-not-are_known.false in
    subst (λ (items : List Item). OnOk c.push_weighted-2.result (c.push_weighted-2.new.self ≡ c.args.db.now ++ (record { items = items; weight = c.args.weight }) ∷ []))
    (sym (numbers-known c.args.piece.now.known c.args.piece.now.own.items c.args.sequence.now known)) c.push_weighted-2.ensures.ok
