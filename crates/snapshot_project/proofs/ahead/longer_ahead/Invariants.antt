use Rattle.std.proofs.Common.{◌≡◌, length, filter, take}
use Rattle.std.specs.List.{AllZip}
use Rattle.std.specs.Arc.{arc_value}
use Rattle.mask_sums.specs.Kept.{lacking}
use Rattle.level_ahead.specs.Counts.{is_asked}
use Rattle.snapshot_project.specs.Ahead.{IsKeptAhead}
use Rattle.snapshot_project.proofs.ahead.longer_ahead.Given as goal

-- the prefixes so far are kept, and so many of them have places
abbrev pub invariant-loop-next : goal.invariant-loop-next
invariant-loop-next l = record {
  entry : l.entry ≡ length (filter (is_asked (lacking l.aim)) (take l.next-index l.found));
  kept : AllZip (IsKeptAhead l.aim l.least l.ahead (arc_value l.shared).stands) (take l.next-index l.found) l.longer.items;
}
