use Rattle.std.proofs.Common.{◌≡◌, ◌≤◌, ◌+◌, ◌-◌, vec_len}
use Rattle.text_ports.proofs.Told.{IsReadTo}
use Rattle.text_ports.proofs.reading.read_file.Given as goal

abbrev pub invariant-loop-buffer : goal.invariant-loop-buffer
invariant-loop-buffer g l = record {
  read : IsReadTo (g.F.Files.holds l.fn.files l.name) (g.F.Files.left l.files) l.bytes.items;
  within : vec_len l.bytes ≤ 67108865;
  same : g.F.Files.holds l.files ≡ g.F.Files.holds l.fn.files;
  names : g.F.Files.may l.files ≡ g.F.Files.may l.fn.files;
  passed : g.F.Files.faults l.files ≡ g.F.Files.faults l.fn.files;
  rising : g.F.Files.faults l.fn.files ≤ g.F.Files.faults l.files;
}

abbrev pub decreases-loop-buffer : goal.decreases-loop-buffer
decreases-loop-buffer g l = 67108865 - vec_len l.bytes
