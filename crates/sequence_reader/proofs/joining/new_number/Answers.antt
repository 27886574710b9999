use Rattle.std.proofs.Common.{◌≡◌, ◌+◌, ◌-◌, sym, ◌∙◌, arith}
use Rattle.std.proofs.lemmas.List.{get_or_past}
use Rattle.sequence_reader.proofs.JoiningLemmas.{number-known, number-own}
use Rattle.sequence_reader.proofs.joining.new_number.Goals as goal

pub returns-then-item-known : goal.returns-then-item-known
returns-then-item-known c = sym (number-known c.args.known c.args.own.now c.args.item c.if-item-known.true)

pub returns-then-place-own : goal.returns-then-place-own
returns-then-place-own c =
    let behind = c.if-item-known.false in
    let place : c.args.item.0 ≡ c.args.known + (c.args.item.0 - c.args.known) = omega (arith, behind) in
    sym (number-own c.args.known c.args.own.now c.args.item (c.args.item.0 - c.args.known) place)

pub returns-else-place-own : goal.returns-else-place-own
returns-else-place-own c =
    let behind = c.if-item-known.false in
    let past = c.if-place-own.false in
    let place : c.args.item.0 ≡ c.args.known + (c.args.item.0 - c.args.known) = omega (arith, behind) in
    sym (number-own c.args.known c.args.own.now c.args.item (c.args.item.0 - c.args.known) place
    ∙ get_or_past c.args.own.now (c.args.item.0 - c.args.known) _ past)
