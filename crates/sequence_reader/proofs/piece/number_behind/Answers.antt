use Rattle.std.proofs.Common.{◌<◌, length, ◌++◌, arith}
use Rattle.std.proofs.lemmas.Option.{slice_get_within}
use Rattle.std.proofs.lemmas.List.Elements.{Contains-append_left}
use Rattle.mine_model.proofs.NameLemmas.{GrowBy-held}
use Rattle.item_names.proofs.Growing.{GrowBy-interned}
use Rattle.sequence_reader.proofs.BehindLemmas.{held_at, own_number, GrowBy-behind}
use Rattle.sequence_reader.proofs.piece.number_behind.Goals as goal

pub returns-in-Some-clause-grown : goal.returns-in-Some-clause-grown
returns-in-Some-clause-grown c =
    GrowBy-held (c.args.known.now ++ c.args.own.now) c.args.name.now
    (Contains-append_left c.args.known.now c.args.own.now c.args.name.now (held_at c.args.known.now _ c.args.name.now c.in-Some.ensures.number))

pub overflow_add-result : goal.overflow_add-result
overflow_add-result c =
    let within : c.in-Ok.item.0 < length c.intern.new.self = slice_get_within c.intern.new.self _ c.args.name.now c.in-Ok.ensures.number in
    let count = c.count.ensures.count in
    let most = c.count.ensures.most in
    let most-known = c.count-in-Ok.ensures.most in
    omega (arith, within, count, most, most-known)

pub returns-in-Ok-clause-number : goal.returns-in-Ok-clause-number
returns-in-Ok-clause-number c =
    rw c.count-in-Ok.ensures.count (own_number c.args.known.now c.intern.new.self _ c.args.name.now c.in-Ok.ensures.number)

pub returns-in-Ok-clause-grown : goal.returns-in-Ok-clause-grown
returns-in-Ok-clause-grown c = GrowBy-behind c.args.known.now c.args.own.now _ c.intern.new.self (GrowBy-interned c.args.own.now c.args.name.now c.intern.new.self c.in-Ok.ensures.names)
