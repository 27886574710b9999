use Rattle.std.proofs.Common.{◌≡◌, map, take}
use Rattle.snapshot_project.specs.Ahead.{next_of, last_of}
use Rattle.snapshot_project.proofs.ahead.told_before.Given as goal

-- those so far are told
abbrev pub invariant-loop-known : goal.invariant-loop-known
invariant-loop-known l = record {
  next : l.grown.next.items ≡ map next_of (take l.known-index l.next);
  longer : l.grown.longer.items ≡ map (last_of l.aim) (take l.known-index l.next);
}
