use Rattle.std.proofs.Common.{◌≡◌, ◌-◌, ◌≤◌, ◌<◌, length}
use Rattle.sequence_reader.specs.Blocks.{WereCounted}
use Rattle.sequence_reader.proofs.block.Block.count_to_end.Given as goal

abbrev pub invariant-loop-self : goal.invariant-loop-self
invariant-loop-self g l = record {
  counted : WereCounted (g.F.Files.left l.fn.files) (g.F.Files.left l.files) l.fn.self.total l.self.total;
  some : 0 < length l.self.buffer.items;
  none : l.self.filled ≡ 0;
  few : l.self.total ≤ 67108864;
  same : g.F.Files.holds l.files ≡ g.F.Files.holds l.fn.files;
  names : g.F.Files.may l.files ≡ g.F.Files.may l.fn.files;
  rising : g.F.Files.faults l.fn.files ≤ g.F.Files.faults l.files;
}

abbrev pub decreases-loop-self : goal.decreases-loop-self
decreases-loop-self g l = 67108865 - l.self.total
