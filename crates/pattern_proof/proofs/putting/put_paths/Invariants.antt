use Rattle.std.proofs.Common.{◌≡◌, ℕ, ◌≤◌, List, ◌++◌, length, take}
use Rattle.std.specs.List.{flat_map}
use Rattle.pattern_writer.specs.Written.{IsHeld}
use Rattle.pattern_proof.specs.ProofLines.{Cited, path_line_of}
use Rattle.pattern_proof.specs.Putting.{ArePathsSoFar}
use Rattle.pattern_proof.specs.Rooms.{HasRoom}
use Rattle.pattern_proof.proofs.putting.put_paths.Given as goal

abbrev pub invariant-loop-at : goal.invariant-loop-at
invariant-loop-at g l = record {
  within : l.held ≤ length l.text;
  kept : (states n m : ℕ) → HasRoom l.initial.room states n m → HasRoom l.room states n m;
  cited : (paths : List Cited) × (places : List ℕ) × ArePathsSoFar l.asked.job.now l.asked.listed.now l.asked.row.now l.at paths places
      × IsHeld (g.O.Sink.written l.initial.out) (g.O.Sink.written l.out) (take l.held l.text) (take l.filled l.initial.text ++ flat_map path_line_of paths);
  passed : g.O.Sink.faults l.out ≡ g.O.Sink.faults l.initial.out;
}

abbrev pub decreases-loop-at : goal.decreases-loop-at
decreases-loop-at g l = l.at
