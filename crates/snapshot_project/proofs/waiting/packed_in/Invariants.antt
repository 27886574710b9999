use Rattle.std.proofs.Common.{ℕ, List, take}
use Rattle.std.specs.List.{AllZip}
use Rattle.snapshot_project.specs.Longer.{AreKept, IsKeptOf}
use Rattle.snapshot_project.proofs.waiting.packed_in.Given as goal

-- what is kept so far is told
abbrev pub invariant-loop-next : goal.invariant-loop-next
invariant-loop-next l = (least : ℕ) (ranks : List ℕ) → AreKept l.part l.aim least ranks l.run.stands l.found
    → AllZip (IsKeptOf l.part least ranks) (take l.next-index l.found) l.longer.items
