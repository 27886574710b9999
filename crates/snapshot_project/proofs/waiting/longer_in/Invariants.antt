use Rattle.std.proofs.Common.{◌≡◌, map, take}
use Rattle.std.specs.Arc.{arc_value}
use Rattle.snapshot_project.specs.Longer.{kept_of}
use Rattle.snapshot_project.proofs.waiting.longer_in.Given as goal

-- the prefixes so far are kept
abbrev pub invariant-loop-next : goal.invariant-loop-next
invariant-loop-next l = l.longer.items ≡ map (kept_of l.aim (arc_value l.shared).stands) (take l.next-index l.found)
