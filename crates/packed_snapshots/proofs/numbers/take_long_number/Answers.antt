use Rattle.std.proofs.Common.{◌≡◌, ◌+◌, ◌*◌, ◌-◌, drop, get_or, sym, ◌∙◌, ap}
use Rattle.std.proofs.lemmas.List.{drop_more}
use Rattle.packed_snapshots.specs.Ahead.{number_ahead, bytes_behind}
use Rattle.packed_snapshots.proofs.NumberLemmas.{ahead-inside, ahead-on-at, read-step}
use Rattle.packed_snapshots.proofs.numbers.take_long_number.Goals as goal

pub loop-at-preserved : goal.loop-at-preserved
loop-at-preserved c =
    let (ahead, total, behind) = c.loop-at.invariant in
    let inside = ahead-inside c.args.bytes.now c.loop-at.at ahead in
    let on = ahead-on-at c.args.bytes.now c.loop-at.at ahead c.loop-at-test.true in
    let here = drop_more c.args.bytes.now c.loop-at.at 0 inside in
    let total' : c.loop-at.number + c.loop-at.unit * (get_or c.args.bytes.now c.loop-at.at 0 - 128 + 128 * number_ahead (drop (c.loop-at.at + 1) c.args.bytes.now)) ≡ number_ahead c.args.bytes.now =
    ap (λ number. c.loop-at.number + c.loop-at.unit * number) (sym on.number ∙ ap number_ahead (sym here)) ∙ total in
    (on.ahead, read-step c.loop-at.number c.loop-at.unit (get_or c.args.bytes.now c.loop-at.at 0 - 128) (number_ahead (drop (c.loop-at.at + 1) c.args.bytes.now)) (number_ahead c.args.bytes.now) total', sym on.behind ∙ (ap bytes_behind (sym here) ∙ behind))
