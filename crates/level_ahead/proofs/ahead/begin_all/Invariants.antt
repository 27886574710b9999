use Rattle.level_ahead.proofs.RoomLemmas.{AreBegun}
use Rattle.level_ahead.proofs.ahead.begin_all.Given as goal

abbrev pub invariant-loop-next : goal.invariant-loop-next
invariant-loop-next l = AreBegun l.lacking l.found l.next-index l.ranks.items l.asked l.initial.counts l.counts
