use Rattle.std.proofs.Common.{◌≡◌, ◌+◌, ◌<◌, ◌%◌, ◌^◌, [], ◌∷◌, ◌++◌, append_assoc, sym, ◌∙◌, ap, arith, vec_len}
use Rattle.std.proofs.lemmas.List.{append-nil}
use Rattle.packed_snapshots.proofs.NumberLemmas.{IsWritten-start, IsWritten-step, room-start, room-step}
use Rattle.packed_snapshots.proofs.numbers.push_number.Goals as goal

pub loop-rest-init : goal.loop-rest-init
loop-rest-init c =
    let fits : c.args.number < 2 ^ 32 = omega arith in
    let (room, same, small) = room-start c.args.number fits in
    ([], room, IsWritten-start c.args.number, sym (append-nil c.args.bytes.now.items), small, omega (arith, same), omega arith)

pub loop-rest-preserved : goal.loop-rest-preserved
loop-rest-preserved c =
    let (front, room, is, items, limit, few, capacity) = c.loop-rest.invariant in
    let (less, same, below) = room-step c.loop-rest.rest room limit (omega arith) in
    let byte = c.loop-rest.rest % 128 + 128 in
    let pushed : c.push.new.self.items ≡ c.loop-rest.bytes.items ++ byte ∷ [] = rw c.unwrap.ensures at c.push.ensures.items in
    let long : vec_len c.push.new.self ≡ vec_len c.loop-rest.bytes + 1 = rw c.unwrap.ensures at c.push.ensures.len in (
      front ++ byte ∷ [],
      less,
      IsWritten-step c.args.number c.loop-rest.rest front is (omega arith),
      pushed ∙ (ap (λ bytes. bytes ++ byte ∷ []) items ∙ append_assoc c.args.bytes.now.items front (byte ∷ [])),
      below,
      omega (arith, long, few, same),
      omega (arith, capacity),
    )
