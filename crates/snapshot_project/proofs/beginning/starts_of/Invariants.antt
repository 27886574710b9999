use Rattle.std.proofs.Common.{◌≡◌, ◌*◌, ◌≤◌}
use Rattle.place_records.specs.Records.{start_of}
use Rattle.snapshot_project.specs.Terrains.{AreStarts}
use Rattle.snapshot_project.proofs.beginning.starts_of.Given as goal

-- the starts in the sequences so far are found, and the next place is where the next one begins
abbrev pub invariant-loop-grid : goal.invariant-loop-grid
invariant-loop-grid l = record {
  starts : AreStarts l.grids l.grid l.starts.items;
  place : l.place ≡ start_of l.grids l.grid;
  most : l.place ≤ l.grid * 65536;
}
