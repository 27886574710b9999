use Rattle.std.proofs.Common.{◌<◌, length, map, sym, subst}
use Rattle.walk_memo.specs.Moves.{move_sets}
use Rattle.walk_memo.specs.Memos.{MemoValue}
use Rattle.walk_memo.proofs.MemoLemmas.{step_read}
use Rattle.walk_memo.proofs.memo.Memo.step.Goals as goal

pub returns-in-Some-clause-step : goal.returns-in-Some-clause-step
returns-in-Some-clause-step g c set move found found_move =
    let memo : MemoValue = record { rows = c.self.inside.rows.items; moves = map (move_sets {W = g.row.W}) c.self.inside.moves.items; sets = c.self.inside.sets.keys; actions = c.self.inside.actions.items } in
    let inside : c.args.of < length memo.moves = subst (λ (v : MemoValue). c.args.of < length v.moves) (sym c.self.view_is) c.requires.movement in
    step_read memo c.args.self.now c.args.set c.args.of c.in-Some.step c.self.view_is
    (c.self.invariant.steps_known c.args.set c.args.of c.in-Some.step inside c.in-Some.ensures) set move found found_move
