use Rattle.std.proofs.Common.{length, length-append, take, ap, sym, arith}
use Rattle.sequence_reader.specs.Taking.{all_waiting}
use Rattle.sequence_reader.proofs.JoiningLemmas.{waiting-room}
use Rattle.sequence_reader.proofs.joining.append_waiting.Goals as goal

pub append_sequences-requires : goal.append_sequences-requires
append_sequences-requires c =
    let so_far = ap length c.loop-piece.invariant.appended in
    let both = length-append c.args.db.now (all_waiting (take c.loop-piece.piece-index c.args.waiting.now)) in
    let room = waiting-room c.args.waiting.now c.loop-piece.piece-index c.piece-item.result c.loop-piece-test.true (sym c.piece-item.is) in
    let all = c.requires in
    omega (arith, so_far, both, room, all)
