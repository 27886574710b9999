use Rattle.std.proofs.Common.{◌≡◌, false, take}
use Rattle.std.specs.List.{Contains}
use Rattle.stand_sums.specs.declared.next_rank.NextRank.{NextRank}
use Rattle.level_ahead.specs.Counts.{is_asked}
use Rattle.snapshot_project.proofs.ahead.asks_any.Given as goal

-- none of those so far
abbrev pub invariant-loop-next : goal.invariant-loop-next
invariant-loop-next l = (next : NextRank) → Contains (take l.next-index l.found) next → is_asked l.lacks next ≡ false
