use Rattle.std.proofs.Common.{◌≡◌, ℕ, ◌≤◌, ◌+◌, ◌-◌, List, [], ◌++◌, length, take, drop, sym, ap, ◌∙◌, arith, length-take, length-drop}
use Rattle.std.proofs.lemmas.List.{take_all}
use Rattle.std.proofs.lemmas.Slice.{take-put_mid}
use Rattle.pattern_writer.specs.Written.{IsHeld, IsCut}
use Rattle.pattern_writer.proofs.PieceLemmas.{both_parts, next_part, written_to_end}
use Rattle.pattern_writer.proofs.WrittenLemmas.{held_more, held_then, handed, cut_then, cut_more, on_err}
use Rattle.pattern_writer.proofs.writing.put.Goals as goal

-- the next part of the bytes goes on where the first ones end
goes_on : (front bytes piece : List ℕ) (at n : ℕ) → piece ≡ take (at + n - at) (drop at bytes)
    → (front ++ take at bytes) ++ piece ≡ front ++ take (at + n) bytes
goes_on front bytes piece at n is =
    let same : at + n - at ≡ n = omega arith in
    ap (λ w. (front ++ take at bytes) ++ w) (is ∙ ap (λ k. take k (drop at bytes)) same) ∙ next_part front bytes at n

last_part : (front bytes piece : List ℕ) (at : ℕ) → piece ≡ take (length bytes - at) (drop at bytes)
    → (front ++ take at bytes) ++ piece ≡ front ++ bytes
last_part front bytes piece at is =
    let all : take (length bytes - at) (drop at bytes) ≡ drop at bytes = take_all (length bytes - at) (drop at bytes) (omega (arith, length-drop at bytes)) in
    ap (λ w. (front ++ take at bytes) ++ w) (is ∙ all) ∙ both_parts front bytes at

last_length : (bytes piece : List ℕ) (at : ℕ) → at ≤ length bytes → piece ≡ take (length bytes - at) (drop at bytes) → length piece ≡ length bytes - at
last_length bytes piece at within is =
    let cut = length-take (length bytes - at) (drop at bytes) in
    let rest = length-drop at bytes in
    let same = ap length is in
    omega arith

pub returns-in_err-hand_over-clause-cut : goal.returns-in_err-hand_over-clause-cut
returns-in_err-hand_over-clause-cut g c =
    let front : List ℕ = take c.args.filled c.args.room.now in
    let at : ℕ = c.loop-room.at in
    let n : ℕ = length c.loop-room.room - c.loop-room.held in
    let piece : List ℕ = c.copy_from_slice.new.self in
    let whole : List ℕ = take c.loop-room.held c.loop-room.room ++ piece in
    let next = goes_on front c.args.bytes.now piece at n c.copy_from_slice.ensures.after in
    let cut : IsCut (g.O.Sink.written c.loop-room.out) (g.O.Sink.written c.hand_over.new.out) whole =
    rw (written_to_end c.loop-room.held c.loop-room.room piece) at c.in_err-hand_over.ensures.cut in
    on_err _ _ (cut_more _ _ (front ++ take (at + n) c.args.bytes.now) (drop (at + n) c.args.bytes.now) _
    (cut_then (g.O.Sink.written c.args.out.now) (g.O.Sink.written c.loop-room.out) (g.O.Sink.written c.hand_over.new.out)
    (take c.loop-room.held c.loop-room.room) (front ++ take at c.args.bytes.now) piece _ c.loop-room.invariant.text cut next)
    (both_parts front c.args.bytes.now (at + n)))

pub loop-room-preserved : goal.loop-room-preserved
loop-room-preserved g c =
    let front : List ℕ = take c.args.filled c.args.room.now in
    let at : ℕ = c.loop-room.at in
    let n : ℕ = length c.loop-room.room - c.loop-room.held in
    let piece : List ℕ = c.copy_from_slice.new.self in
    let whole : List ℕ = take c.loop-room.held c.loop-room.room ++ piece in
    let next = goes_on front c.args.bytes.now piece at n c.copy_from_slice.ensures.after in
    record {
      within = omega arith;
      inside = omega arith;
      text = held_then (g.O.Sink.written c.args.out.now) (g.O.Sink.written c.loop-room.out) (g.O.Sink.written c.hand_over.new.out)
          (take c.loop-room.held c.loop-room.room) (front ++ take at c.args.bytes.now) piece [] _ c.loop-room.invariant.text
          (handed (g.O.Sink.written c.loop-room.out) (g.O.Sink.written c.hand_over.new.out) _ whole c.in_ok-hand_over.ensures.written
          (written_to_end c.loop-room.held c.loop-room.room piece)) next;
      passed = c.in_ok-hand_over.ensures.passed ∙ c.loop-room.invariant.passed;
    }

pub returns-clause-held : goal.returns-clause-held
returns-clause-held g c =
    let front : List ℕ = take c.args.filled c.args.room.now in
    let at : ℕ = c.loop-room.at in
    let piece : List ℕ = c.copy_from_slice-2.new.self in
    let is = c.copy_from_slice-2.ensures.after in
    let many : length piece ≡ length c.args.bytes.now - at = last_length c.args.bytes.now piece at c.loop-room.invariant.inside is in
    held_more (g.O.Sink.written c.args.out.now) (g.O.Sink.written c.loop-room.out)
    (take c.loop-room.held c.loop-room.room) (front ++ take at c.args.bytes.now) piece _ _ c.loop-room.invariant.text
    (sym (take-put_mid c.loop-room.held _ c.loop-room.room piece _ (omega arith) c.loop-room.invariant.within))
    (last_part front c.args.bytes.now piece at is)
