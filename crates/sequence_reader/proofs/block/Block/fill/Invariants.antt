use Rattle.std.proofs.Common.{◌≡◌, ◌+◌, ◌-◌, ◌≤◌, ◌<◌, false, length}
use Rattle.sequence_reader.specs.Blocks.{WereAdded}
use Rattle.sequence_reader.proofs.block.Block.fill.Given as goal

abbrev pub invariant-loop-self : goal.invariant-loop-self
invariant-loop-self g l = record {
  added : WereAdded (g.F.Files.left l.fn.files) (g.F.Files.left l.files) l.fn.self l.self;
  place : l.self.total + l.fn.self.filled ≡ l.fn.self.total + l.self.filled;
  some : 0 < length l.self.buffer.items;
  within : l.self.filled ≤ length l.self.buffer.items;
  read : l.self.filled ≤ l.self.total;
  few : l.self.total ≤ 67108864;
  more : l.self.is_last ≡ false;
  first : l.self.is_first ≡ l.fn.self.is_first;
  same : g.F.Files.holds l.files ≡ g.F.Files.holds l.fn.files;
  names : g.F.Files.may l.files ≡ g.F.Files.may l.fn.files;
  rising : g.F.Files.faults l.fn.files ≤ g.F.Files.faults l.files;
}

abbrev pub decreases-loop-self : goal.decreases-loop-self
decreases-loop-self g l = 67108865 - l.self.total
