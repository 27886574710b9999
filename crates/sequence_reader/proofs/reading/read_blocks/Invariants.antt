use Rattle.std.proofs.Common.{◌≡◌, ◌+◌, ◌-◌, ◌*◌, ◌≤◌, ◌<◌, ◌++◌, ℕ, List, length, if◌then◌else◌}
use Rattle.sequence_reader.specs.Blocks.{IsBlock, IsAt}
use Rattle.sequence_reader.specs.Taking.{IsTaken, all_waiting, with_waiting}
use Rattle.sequence_reader.proofs.reading.read_blocks.Given as goal

abbrev pub invariant-loop-files : goal.invariant-loop-files
invariant-loop-files g l = record {
  block : IsBlock l.block;
  buffer : 0 < length l.next.buffer.items;
  room : length l.reading.db + length (all_waiting l.waiting.items) ≤ 4194304;
  so_far : (lines : List (List ℕ)) × IsTaken l.fn.reading.names l.fn.reading.weighted lines (with_waiting l.reading l.waiting.items)
      × IsAt (g.F.Files.left l.fn.files) (g.F.Files.left l.files) lines l.block;
  kept : (added : List (List ℕ)) × (l.reading.names ≡ l.fn.reading.names ++ added);
  same : g.F.Files.holds l.files ≡ g.F.Files.holds l.fn.files;
  names : g.F.Files.may l.files ≡ g.F.Files.may l.fn.files;
  rising : g.F.Files.faults l.fn.files ≤ g.F.Files.faults l.files;
}

abbrev pub decreases-loop-files : goal.decreases-loop-files
decreases-loop-files g l = 134217730 - 2 * (l.block.total + l.block.lines - l.block.filled) + (if l.block.is_last then 0 else 1)
