use Rattle.std.proofs.Common.{◌≡◌, ◌≤◌, map, take, string_bytes}
use Rattle.desq_run.specs.Merging.{WereTaken}
use Rattle.desq_run.proofs.merging.read_outputs.Given as goal

abbrev pub invariant-loop-at : goal.invariant-loop-at
invariant-loop-at g l = record {
  taken : WereTaken l.threshold (g.F.Files.holds l.fn.files) (map string_bytes (take l.at l.file_names)) l.names l.held;
  same_names : g.F.Files.may l.files ≡ g.F.Files.may l.fn.files;
  same_files : g.F.Files.holds l.files ≡ g.F.Files.holds l.fn.files;
  never_falls : g.F.Files.faults l.fn.files ≤ g.F.Files.faults l.files;
}
