use Rattle.std.proofs.Common.{◌≡◌, ◌≤◌, take}
use Rattle.std.specs.List.{Contains}
use Rattle.stand_sums.specs.declared.next_rank.NextRank.{NextRank}
use Rattle.snapshot_project.proofs.ahead.placed.Given as goal

-- none of those so far
abbrev pub invariant-loop-next : goal.invariant-loop-next
invariant-loop-next l = (next : NextRank) → Contains (take l.next-index l.found) next → next.rank ≡ l.rank → next.last ≤ next.first
