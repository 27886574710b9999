use Rattle.std.proofs.Common.{◌≡◌, ◌≤◌, List, map, length, take}
use Rattle.std.specs.List.{AllByRecursion, flat_map}
use Rattle.pattern_writer.specs.Written.{IsHeld}
use Rattle.pattern_proof.specs.ProofLines.{Entry, text_of_entry}
use Rattle.pattern_proof.specs.Proofs.{IsFull}
use Rattle.pattern_proof.specs.Rooms.{HasRoomForAll}
use Rattle.pattern_proof.proofs.proof_writer.put_entries.Given as goal

abbrev pub invariant-loop-number : goal.invariant-loop-number
invariant-loop-number g l = record {
  within : l.held ≤ length l.text;
  room : HasRoomForAll l.room l.source.job.now l.source.rows.now;
  entries : (entries : List Entry) × (map (λ entry. entry.row) entries ≡ take l.number l.source.rows.now) × AllByRecursion (IsFull l.source.job.now) entries
      × IsHeld (g.O.Sink.written l.initial.out) (g.O.Sink.written l.out) (take l.held l.text) (flat_map (text_of_entry l.source.names.now) entries);
  passed : g.O.Sink.faults l.out ≡ g.O.Sink.faults l.initial.out;
}
