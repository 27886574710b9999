use Rattle.std.proofs.Common.{◌≡◌, map, take}
use Rattle.snapshot_project.specs.Longer.{told_of}
use Rattle.snapshot_project.proofs.growing.told.Given as goal

-- the ranks so far are told
abbrev pub invariant-loop-next : goal.invariant-loop-next
invariant-loop-next l = l.told.items ≡ map told_of (take l.next-index l.found)
