use Rattle.std.proofs.Common.{◌<◌, length, map, sym, subst}
use Rattle.walk_memo.specs.Moves.{move_sets}
use Rattle.walk_memo.specs.Memos.{MemoValue}
use Rattle.walk_memo.proofs.MemoLemmas.{join_read}
use Rattle.walk_memo.proofs.memo.Memo.join.Goals as goal

pub returns-in-Some-clause-joined : goal.returns-in-Some-clause-joined
returns-in-Some-clause-joined g c set found =
    let memo : MemoValue = record { rows = c.self.inside.rows.items; moves = map (move_sets {W = g.row.W}) c.self.inside.moves.items; sets = c.self.inside.sets.keys; actions = c.self.inside.actions.items } in
    let inside : c.args.state < length memo.rows = subst (λ (v : MemoValue). c.args.state < length v.rows) (sym c.self.view_is) c.requires.state in
    join_read memo c.args.self.now c.args.set c.args.state c.in-Some.number c.self.view_is
    (c.self.invariant.joins_known c.args.set c.args.state c.in-Some.number inside c.in-Some.ensures) set found
