use Rattle.std.proofs.Common.{◌≡◌, ◌<◌, ◌≤◌, map}
use Rattle.std.specs.List.{slice_index}
use Rattle.level_ahead.proofs.GatherLemmas.{AreLeft}
use Rattle.level_ahead.proofs.RoomLemmas.{next_at}
use Rattle.level_ahead.proofs.ahead.reaching.Given as goal

abbrev pub invariant-loop-rank : goal.invariant-loop-rank
invariant-loop-rank l = record {
  left : AreLeft (λ rank. (rank < 256) × (l.least ≤ slice_index l.counts rank)) l.yielded l.rank-iterator;
  found : l.found.items ≡ map (next_at l.counts) l.yielded;
}
